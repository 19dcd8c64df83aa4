-- What the page of records cites (Records.antt): of the filters that the demands speak of, by the laws of Restored and Saving. Assumes nothing.
use Prim.Native.Nat.{ℕ, zero, suc, ◌+◌, ◌*◌, ◌<◌, ◌≤◌}
use mathlib.Core.Path.{◌≡◌, refl, sym, ap, ap₂, ◌∙◌, subst}
use mathlib.Core.Bool.{Bool, true, false, ◌&&◌}
use mathlib.Core.List.{List, [], ◌∷◌, ◌++◌}
use native.Mathlib.Omega.{arith}
use borrow.Author.Tests.{le-leb}
use lib.Dec.{leb, eqb}
use lib.ListN.{length, take, drop, get_or, replicate, length-append, length-drop}
use lib.Ieee.{Float, Format, binary64, of_bits}
use Rattle.floats.specs.declared.Slice.TheVariants.{State, Covariance, Noise, Lone}
use Rattle.floats.specs.Refusal.{taken, Outcome, accepted}
use Rattle.floats.specs.Search.{Input, input, searched}
use Rattle.floats.specs.Numbers.{zeros, all_finite}
use Rattle.floats.specs.Fronts.{over}
use Rattle.floats.proofs.Refusals.{number_of, gave_zero}
use Rattle.angles.specs.Kinds.{plain}
use Rattle.angles.specs.Kinds.{Kind}
use Rattle.pieces.specs.Bytes.{AreBytes, word_of, number_at, kind_at, formed, read_each, all_true}
use Rattle.matrix.specs.Results.{run}
use Rattle.sigma.specs.Weights.{Params}
use Rattle.filter.specs.Types.{Track}
use Rattle.filter.specs.Types.{Filter}
use Rattle.filter.specs.Types.{Answer}
use Rattle.filter.specs.Asked.{of_bytes, Param, by_params, within, long, every, guarded}
use Rattle.filter.specs.Filters.{is_shut, filter, sheet, seen}
use Rattle.filter.specs.Records.{numbers_of, bytes_of, record_length, numbers}
use Rattle.filter.specs.Calls.{Call, reading, save, halves, as_kinds, values_of, Done, plan}
use Rattle.filter.specs.Steps.{Reply, Stepped, step}
use Rattle.filter.specs.New.{fresh_track, empty, answer_of, from, inputs_for}
use Rattle.filter.specs.Load.{filter_of, turn_inputs, states_in, numbers_in, each_kind, filter_in, is_record, load_asks, load_of, load_answer}
use Rattle.records.proofs.Loaded.{filter_of_lem, x_in, p_in, q_in, param, numbers_are, kinds_at}
use Rattle.pieces.proofs.Laws.{length_read}
use Rattle.pairs.specs.declared.Pair.{Pair}
use Rattle.pairs.specs.declared.Side.{Side}
use Rattle.pairs.specs.declared.Side.TheVariants.{First, Second}
use Rattle.pairs.specs.Pairs.{solo, pair_asks, leaves, pair_step}
use Rattle.demands.specs.Runs.{told, Alike}
use Rattle.demands.specs.Sound.{Yielded}
use Rattle.demands.specs.Records.{Storable, BeforeFresh, refreshed, Reads}
use Rattle.demands.specs.PairSound.{PairYielded}
use Rattle.demands.proofs.Passed.{by_cases}
use Rattle.demands.proofs.Places.{agrees}
use Rattle.demands.proofs.Sound.{sound}
use Rattle.demands.proofs.PairSteps.{reply_is, solo_is}
use Rattle.demands.proofs.PairSound.{side_yielded}
use Rattle.demands.proofs.Leftover.{nothing_left_over, shut_is}
use Rattle.demands.proofs.Saving.{saved_exactly, saved_as}
use Rattle.demands.proofs.Arrays.{all_both}
use Rattle.demands.proofs.Fine.{in_range_lem}
use Rattle.demands.proofs.Restored.{record_long, record_bytes, read_back, front_of, past_three, Took, took, read_exact}

module _ (f : Format) where
  pub lengthy : {s : Filter} → Yielded f s → (length (bytes_of s) ≡ record_length s.sheet.n) × AreBytes (bytes_of s)
  lengthy {s} y = (record_long f s (sound f y), record_bytes s (sound f y).small)

  -- the numbers of a record are finite
  pub recorded_finite : {s : Filter} → Yielded f s → (all_finite (numbers_of s) ≡ true) × (all_finite (halves s.sheet.kinds) ≡ true)
  recorded_finite {s} y =
      let o = sound f y in
      let n = s.sheet.n in
      (all_both (take n s.track.x) _ o.x.bounded (all_both (take (n * n) s.track.p) _ o.p.bounded (all_both (take (n * n) s.sheet.q) _ o.q.bounded o.params)), o.kinds)

  -- ---- saved, then read

  refreshed_alike : (s : Filter) → s.track.stale ≡ true → is_shut s.track.stage ≡ true → Alike s (refreshed s)
  refreshed_alike s h k = record { sheet = refl; track = record { x = refl; p = refl; stale₁ = h; stale₂ = refl; shut₁ = shut_is s.track.stage k; shut₂ = refl } }

  module _ {s : Filter} (y : Yielded f s) (g : Storable s) (out : List ℕ) (z : (step f s (reading (save out))).reply.refusal.number ≡ 0) where
    abbrev written : List ℕ
    written = over (step f s (reading (save out))).reply.bytes out

    taken_so : BeforeFresh s out × (s.track.stale ≡ true)
    taken_so = (saved_exactly f s out).0 (ap (λ (t : Stepped). t.reply.refusal) (saved_as f s out z))

    written_is : written ≡ bytes_of s ++ drop (length (bytes_of s)) out
    written_is = ap (λ (t : Stepped). over t.reply.bytes out) (saved_as f s out z)

    back : load_of f written ≡ accepted (refreshed s)
    back = ap (load_of f) written_is ∙ read_back f s (sound f y) g taken_so.0.states.0 (drop (length (bytes_of s)) out)

    -- with its sheet, x and P, and else as New leaves a filter; so alike
    pub restored : load_answer f written ≡ record { filter = refreshed s; refusal = taken }
    restored = ap answer_of back

    pub kept : ((load_answer f written).refusal ≡ taken) × Alike s (load_answer f written).filter
    kept = (ap (λ (a : Answer). a.refusal) restored, subst (λ (a : Answer). Alike s a.filter) (sym restored) (refreshed_alike s taken_so.1 taken_so.0.shut))

    pub same_answers : (cs : List Call) → told f s cs ≡ told f (load_answer f written).filter cs
    same_answers = nothing_left_over f s (load_answer f written).filter kept.1

  -- ---- nothing left over

  pub alike_bytes : (s t : Filter) → Alike s t → bytes_of s ≡ bytes_of t
  unfolding bytes_of
  alike_bytes s t a = rw (a.sheet, a.track.x, a.track.p)

-- ---- what is read, by where it stands

module _ (b : List ℕ) where
  abbrev n : ℕ
  n = states_in b

  abbrev params : Params
  params = record { alpha = param b 3; beta = param b 11; kappa = param b 19 }

  abbrev kinds : List Kind
  kinds = read_each 9 kind_at n (drop (27 + 8 * n + 16 * (n * n)) b)

  kinds_are : each_kind b kind_at ≡ kinds
  kinds_are = sym (kinds_at b (27 + 8 * n + 16 * (n * n)) kind_at refl)

  -- the filter of these parts, which is the only one that reads so
  abbrev parted : Filter
  parted = filter (sheet n (over (q_in b) (zeros 64)) params (over kinds (replicate 8 plain))) (fresh_track (over (x_in b) (zeros 8)) (over (p_in b) (zeros 64)))

  filter_is : filter_in b ≡ parted
  filter_is =
      ap (λ (v : List Float). filter_of n v (each_kind b kind_at)) (numbers_are b)
      ∙ filter_of_lem n (x_in b) (p_in b) (q_in b) (param b 3) (param b 11) (param b 19) (each_kind b kind_at) (length_read 8 number_at _ _) (length_read 8 number_at _ _) (length_read 8 number_at _ _)
      ∙ ap (λ (ks : List Kind). filter (sheet n (over (q_in b) (zeros 64)) params (over ks (replicate 8 plain))) (fresh_track (over (x_in b) (zeros 8)) (over (p_in b) (zeros 64)))) kinds_are

  parted_reads : Reads b parted
  parted_reads = record { n = refl; x = refl; p = refl; q = refl; params = refl; kinds = refl; rest = refl }

  reads_parted : (t : Filter) → Reads b t → t ≡ parted
  reads_parted t r = ap₂ filter (rw (r.n, r.q, r.params, r.kinds)) (r.rest ∙ ap₂ fresh_track r.x r.p)

  -- what is searched, and what has to pass 6
  searched_in : (load_asks b).inputs ≡ input State (x_in b) ++ (input Covariance (p_in b) ++ (input Noise (q_in b) ++ (input Lone (values_of params) ++ turn_inputs kinds)))
  searched_in =
      ap₂ (λ (s : Filter) (ks : List Kind). inputs_for n (from s.track.x s.track.p ∷ []) s.sheet.q s.sheet.params ++ turn_inputs ks) filter_is kinds_are
      ∙ ap₂ (λ (x p : List Float). input State x ++ (input Covariance p ++ (input Noise (take (n * n) parted.sheet.q) ++ (input Lone (values_of params) ++ turn_inputs kinds)))) (front_of n (x_in b) (zeros 8) (length_read 8 number_at _ _)) (front_of (n * n) (p_in b) (zeros 64) (length_read 8 number_at _ _))
      ∙ ap (λ (q : List Float). input State (x_in b) ++ (input Covariance (p_in b) ++ (input Noise q ++ (input Lone (values_of params) ++ turn_inputs kinds)))) (front_of (n * n) (q_in b) (zeros 64) (length_read 8 number_at _ _))

  params_in : (load_asks b).params ≡ by_params n params ∷ as_kinds kinds
  params_in = ap₂ (λ (s : Filter) (ks : List Kind). by_params n s.sheet.params ∷ as_kinds ks) filter_is kinds_are

  pub asks_in : load_asks b ≡ record {
    fits = true;
    sizes = record { value = n; from = 1; to = 8 } ∷ [];
    lent = of_bytes b (record_length n) ∷ [];
    formed = is_record b;
    stale = false;
    fresh = false;
    inputs = input State (x_in b) ++ (input Covariance (p_in b) ++ (input Noise (q_in b) ++ (input Lone (values_of params) ++ turn_inputs kinds)));
    plain = [];
    params = by_params n params ∷ as_kinds kinds;
  }
  asks_in = ap₂ (λ (i : List Input) (q : List Param). record { fits = true; sizes = record { value = n; from = 1; to = 8 } ∷ []; lent = of_bytes b (record_length n) ∷ []; formed = is_record b; stale = false; fresh = false; inputs = i; plain = []; params = q }) searched_in params_in

  module _ (f : Format) where
    module _ (z : (load_answer f b).refusal.number ≡ 0) where
      is_taken : load_of f b ≡ accepted (load_answer f b).filter
      is_taken = gave_zero (load_of f b) empty z

      pub took_it : Took b f (load_answer f b).filter
      took_it = took b f (load_answer f b).filter is_taken

      pub taken_reads : Reads b (load_answer f b).filter
      taken_reads = subst (Reads b) (sym filter_is ∙ took_it.is) parted_reads

      pub read_only : (t : Filter) → Reads b t → t ≡ (load_answer f b).filter
      read_only t r = reads_parted t r ∙ sym filter_is ∙ took_it.is

      pub saved_again : AreBytes b → bytes_of (load_answer f b).filter ≡ take (record_length n) b
      saved_again = read_exact b took_it

      -- and saving it is taken wherever there is room
      pub saves_again : AreBytes b → (out : List ℕ) → record_length n ≤ length out → (step f (load_answer f b).filter (reading (save out))).reply ≡ record { refusal = taken; given = []; stale = true; bytes = take (record_length n) b }
      saves_again a out room =
          let t = (load_answer f b).filter in
          let r = taken_reads in
          let states : (1 ≤ t.sheet.n) × (t.sheet.n ≤ 8) = subst (λ (k : ℕ). (1 ≤ k) × (k ≤ 8)) (sym r.n) (in_range_lem 1 8 n took_it.passed.sizes.0) in
          let before : BeforeFresh t out = record { shut = ap (λ (v : Track). is_shut v.stage) r.rest; states = states; room = subst (λ (k : ℕ). record_length k ≤ length out) (sym r.n) room } in
          let e = (saved_exactly f t out).1 (before, ap (λ (v : Track). v.stale) r.rest) in
          ap (λ (u : Stepped). u.reply) (saved_as f t out (number_of e)) ∙ ap (λ (l : List ℕ). record { refusal = taken; given = []; stale = true; bytes = l }) (saved_again a)

-- ---- bytes behind a record

module _ (rest : List ℕ) where
  word_front : (k : ℕ) (b : List ℕ) → k ≤ length b → word_of k (b ++ rest) ≡ word_of k b
  unfolding word_of
  word_front zero b h = refl
  word_front (suc k) [] h = absurd (omega arith)
  word_front (suc k) (c ∷ b) h = ap (λ (v : ℕ). c + 256 * v) (word_front k b (omega arith))

  drop_front : (k : ℕ) (b : List ℕ) → k ≤ length b → drop k (b ++ rest) ≡ drop k b ++ rest
  drop_front zero b h = refl
  drop_front (suc k) [] h = absurd (omega arith)
  drop_front (suc k) (c ∷ b) h = drop_front k b (omega arith)

  byte_front : (i : ℕ) (b : List ℕ) → i < length b → get_or (b ++ rest) i 0 ≡ get_or b i 0
  byte_front i [] h = absurd (omega arith)
  byte_front zero (c ∷ b) h = refl
  byte_front (suc i) (c ∷ b) h = byte_front i b (omega arith)

  -- what each piece is read as goes by its own bytes
  each_front : {A : Type 0} (w : ℕ) (from : List ℕ → A) → ((b : List ℕ) → w ≤ length b → from (b ++ rest) ≡ from b) → (k : ℕ) (b : List ℕ) → w * k ≤ length b → read_each w from k (b ++ rest) ≡ read_each w from k b
  unfolding read_each
  each_front w from own zero b h = refl
  each_front w from own (suc k) b h =
      let g : w ≤ length b = omega arith in
      ap₂ ◌∷◌ (own b g) (ap (read_each w from k) (drop_front w b g) ∙ each_front w from own k (drop w b) (omega (arith, length-drop w b)))

  number_front : (b : List ℕ) → 8 ≤ length b → number_at (b ++ rest) ≡ number_at b
  unfolding number_at
  number_front b h = ap (of_bits binary64) (word_front 8 b h)

  nine_front : (b : List ℕ) → 9 ≤ length b → (get_or (b ++ rest) 0 0 ≡ get_or b 0 0) × (word_of 8 (drop 1 (b ++ rest)) ≡ word_of 8 (drop 1 b))
  nine_front b h = (byte_front 0 b (omega arith), ap (word_of 8) (drop_front 1 b (omega arith)) ∙ word_front 8 (drop 1 b) (omega (arith, length-drop 1 b)))

  kind_front : (b : List ℕ) → 9 ≤ length b → kind_at (b ++ rest) ≡ kind_at b
  unfolding kind_at number_at
  kind_front b h = let e = nine_front b h in rw (e.0, e.1)

  form_front : (b : List ℕ) → 9 ≤ length b → formed (b ++ rest) ≡ formed b
  unfolding formed
  form_front b h = let e = nine_front b h in rw (e.0, e.1)

module _ (b rest : List ℕ) (h : 3 ≤ length b) (k : record_length (get_or b 2 0) ≤ length b) where
  abbrev longer : List ℕ
  longer = b ++ rest

  states_same : states_in longer ≡ states_in b
  states_same = byte_front rest 2 b (omega arith)

  numbers_same : numbers_in longer ≡ numbers_in b
  numbers_same =
      let c = numbers (states_in b) in
      ap₂ (λ (i : ℕ) (l : List ℕ). read_each 8 number_at (numbers i) l) states_same (drop_front rest 3 b h) ∙ each_front rest 8 number_at (number_front rest) c (drop 3 b) (omega (arith, length-drop 3 b))

  kinds_same : {A : Type 0} (from : List ℕ → A) → ((c : List ℕ) → 9 ≤ length c → from (c ++ rest) ≡ from c) → each_kind longer from ≡ each_kind b from
  kinds_same from own =
      let at = 3 + 8 * numbers (states_in b) in
      ap (λ (i : ℕ). read_each 9 from i (drop (3 + 8 * numbers i) longer)) states_same
      ∙ ap (read_each 9 from (states_in b)) (drop_front rest at b (omega arith)) ∙ each_front rest 9 from own (states_in b) (drop at b) (omega (arith, length-drop at b))

  form_same : is_record longer ≡ is_record b
  form_same =
      ap₂ (λ (i j : ℕ). eqb i 87 && (eqb j 80 && all_true (each_kind longer formed))) (byte_front rest 0 b (omega arith)) (byte_front rest 1 b (omega arith))
      ∙ ap (λ (l : List Bool). eqb (get_or b 0 0) 87 && (eqb (get_or b 1 0) 80 && all_true l)) (kinds_same formed (form_front rest))

  filter_same : filter_in longer ≡ filter_in b
  filter_same = ap (λ (i : ℕ). filter_of i (numbers_in longer) (each_kind longer kind_at)) states_same ∙ ap₂ (filter_of (states_in b)) numbers_same (kinds_same kind_at (kind_front rest))

  pub rest_unread : (f : Format) → load_answer f longer ≡ load_answer f b
  rest_unread f =
      let ks = kinds_same kind_at (kind_front rest) in
      let long_same : every long (load_asks longer).lent ≡ every long (load_asks b).lent =
      ap (λ (i : ℕ). leb (record_length i) (length longer) && true) states_same ∙ ap (λ (t : Bool). t && true) (le-leb (record_length (states_in b)) (length longer) (omega (arith, length-append b rest)) ∙ sym (le-leb (record_length (states_in b)) (length b) k)) in
      ap answer_of
      (past_three f longer (omega (arith, length-append b rest))
      ∙ agrees f (load_asks longer) (accepted (filter_in longer)) (load_asks b) refl (ap (λ (i : ℕ). within (record { value = i; from = 1; to = 8 }) && true) states_same) long_same form_same refl refl
      (ap searched (ap₂ (λ (s : Filter) (l : List Kind). inputs_for (states_in longer) (from s.track.x s.track.p ∷ []) s.sheet.q s.sheet.params ++ turn_inputs l) filter_same ks ∙ ap (λ (i : ℕ). inputs_for i (from (filter_in b).track.x (filter_in b).track.p ∷ []) (filter_in b).sheet.q (filter_in b).sheet.params ++ turn_inputs (each_kind b kind_at)) states_same))
      refl
      (ap₂ (λ (s : Filter) (l : List Kind). by_params (states_in longer) s.sheet.params ∷ as_kinds l) filter_same ks ∙ ap (λ (i : ℕ). by_params i (filter_in b).sheet.params ∷ as_kinds (each_kind b kind_at)) states_same)
      ∙ ap (λ (t : Filter). guarded f (load_asks b) (accepted t)) filter_same
      ∙ sym (past_three f b h))

-- ---- a side of a pair

module _ (f : Format) where
  side_left : (p : Pair) (w : Side) (out : List ℕ) → (pair_step f p w (reading (save out))).pair ≡ p
  unfolding pair_step run
  side_left p w out = let c = reading (save out) in by_cases (λ (o : Outcome Done). leaves c p w o ≡ p) (λ r. refl) f (pair_asks p w c) (run (plan f (seen (solo p w)) c)) (λ h. go w)
    where
      go : (v : Side) → leaves (reading (save out)) p v (run (plan f (seen (solo p w)) (reading (save out)))) ≡ p
      go First = refl
      go Second = refl

  pub side_saved : (p : Pair) (w : Side) (out : List ℕ) → ((pair_step f p w (reading (save out))).reply ≡ (step f (solo p w) (reading (save out))).reply) × ((pair_step f p w (reading (save out))).pair ≡ p)
  side_saved p w out = (reply_is f p w (reading (save out)) ∙ ap (λ (t : Stepped). t.reply) (solo_is f p w (reading (save out)) refl), side_left p w out)

  pub side_kept : {p : Pair} → PairYielded f p → (w : Side) → Storable (solo p w) → (out : List ℕ) → let a = (pair_step f p w (reading (save out))).reply in a.refusal.number ≡ 0 → let b = load_answer f (over a.bytes out) in (b.refusal ≡ taken) × Alike (solo p w) b.filter
  side_kept {p} y w g out =
      subst (λ (a : Reply). a.refusal.number ≡ 0 → let b = load_answer f (over a.bytes out) in (b.refusal ≡ taken) × Alike (solo p w) b.filter) (sym (side_saved p w out).0) (kept f (side_yielded f y w) g out)

  pub side_same : {p : Pair} → PairYielded f p → (w : Side) → Storable (solo p w) → (out : List ℕ) → let a = (pair_step f p w (reading (save out))).reply in a.refusal.number ≡ 0 → (cs : List Call) → told f (solo p w) cs ≡ told f (load_answer f (over a.bytes out)).filter cs
  side_same {p} y w g out z = nothing_left_over f (solo p w) _ (side_kept y w g out z).1
