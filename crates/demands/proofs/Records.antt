-- Document 02, A8: filters saved and read. The record; save and load, each exactly when; what is saved and read again is alike, nothing left over is in a record, and nothing is read but what stands there. Assumes nothing.
-- Save and load are the f64 filter's alone: the bytes are an f64's whatever the format, and where a statement is over every format, that is the format of the other calls and of 6; the code's are at binary64. A record byte by byte, and what is refused, are in the table of cases (A8 in crates/demands/specs/Cases.antt).
use Prim.Native.Nat.{ℕ, ◌+◌, ◌*◌, ◌≤◌}
use mathlib.Core.Path.{◌≡◌, refl, sym, ap, ◌∙◌}
use mathlib.Core.Bool.{true, false, not}
use mathlib.Core.List.{List, [], ◌∷◌, ◌++◌}
use mathlib.Core.Logic.{◌↔◌}
use native.Mathlib.Omega.{arith}
use lib.ListN.{length, take, drop, get_or}
use lib.Ieee.{Format, binary64}
use Rattle.floats.specs.declared.Slice.TheVariants.{State, Covariance, Noise, Lone}
use Rattle.floats.specs.declared.Refusal.TheVariants.{Fresh as FRESH, Record as RECORD}
use Rattle.floats.specs.Refusal.{verdict, taken}
use Rattle.floats.specs.Numbers.{all_finite}
use Rattle.floats.specs.Fronts.{over}
use Rattle.floats.proofs.Refusals.{number_of}
use Rattle.pieces.specs.Bytes.{AreBytes, number_at, kind_at, read_each}
use Rattle.sigma.specs.Weights.{Params}
use Rattle.filter.specs.Types.{Filter}
use Rattle.filter.specs.Asked.{of_bytes, by_params}
use Rattle.filter.specs.Filters.{is_shut}
use Rattle.filter.specs.Records.{numbers_of, bytes_of}
use Rattle.filter.specs.Calls.{Call, reading, save, halves, as_kinds, asks}
use Rattle.filter.specs.Steps.{Reply, step}
use Rattle.filter.specs.Load.{turn_inputs, is_record, load_asks, load_answer}
use Rattle.pairs.specs.declared.Pair.{Pair}
use Rattle.pairs.specs.declared.Side.{Side}
use Rattle.pairs.specs.Pairs.{track_at, solo, pair_step}
use Rattle.demands.specs.Runs.{told, Alike}
use Rattle.demands.specs.Sound.{Yielded}
use Rattle.demands.specs.PairSound.{PairYielded}
use Rattle.demands.specs.Records.{Storable, Fed, PairFed, BeforeFresh, BeforeRecord, NoRecord, refreshed, Reads}
use Rattle.demands.proofs.Rows.{fails_where}
use Rattle.demands.proofs.Saving.{no_record, fresh_exactly, saved_exactly, saved_as, record_exactly}
use Rattle.demands.proofs.Fed.{fed_storable, fed_yielded, side_fed, pair_fed_yielded}
use Rattle.demands.proofs.Recorded.{lengthy, recorded_finite, restored, kept, same_answers, alike_bytes, asks_in, taken_reads, read_only, saved_again, saves_again, rest_unread, side_saved, side_kept, side_same}

module _ (f : Format) where
  -- ---- the record (`bytes_of`, crates/filter/specs/Records.antt)

  -- That of a filter of n states has 27 + 17n + 16n² bytes, each of them a byte, and every number that is written there is finite.
  pub record_length : {s : Filter} → Yielded f s → (length (bytes_of s) ≡ 27 + 17 * s.sheet.n + 16 * (s.sheet.n * s.sheet.n)) × AreBytes (bytes_of s)
  record_length = lengthy f

  pub record_finite : {s : Filter} → Yielded f s → (all_finite (numbers_of s) ≡ true) × (all_finite (halves s.sheet.kinds) ≡ true)
  record_finite = recorded_finite f

  -- ---- save

  -- It asks (s as seen) that nothing is open (3), for 1 to 8 states (1), for room (2) and for a stale filter (11);
  pub save_asks : (s : Filter) (b : List ℕ) → asks s (reading (save b)) ≡ record {
    fits = is_shut s.track.stage;
    sizes = record { value = s.sheet.n; from = 1; to = 8 } ∷ [];
    lent = of_bytes b (27 + 17 * s.sheet.n + 16 * (s.sheet.n * s.sheet.n)) ∷ [];
    formed = true;
    stale = false;
    fresh = not s.track.stale;
    inputs = [];
    plain = [];
    params = [];
  }
  save_asks s b = refl

  -- so 11 is given exactly when none of the others is due (`BeforeFresh`) and the filter isn't stale, and the call is taken exactly when none is and it is stale;
  pub fresh_when : (s : Filter) (b : List ℕ) → ((step f s (reading (save b))).reply.refusal ≡ verdict FRESH) ↔ (BeforeFresh s b × (s.track.stale ≡ false))
  fresh_when = fresh_exactly f

  pub saved_when : (s : Filter) (b : List ℕ) → ((step f s (reading (save b))).reply.refusal ≡ taken) ↔ (BeforeFresh s b × (s.track.stale ≡ true))
  saved_when = saved_exactly f

  -- it then hands out the record and leaves the filter as it is. (The contracts lay the bytes over the front of those that are lent: `over`.)
  pub saved : (s : Filter) (b : List ℕ) → (step f s (reading (save b))).reply.refusal.number ≡ 0 → step f s (reading (save b)) ≡ record { filter = s; reply = record { refusal = taken; given = []; stale = true; bytes = bytes_of s } }
  saved = saved_as f

  -- ---- load. Under three bytes it gives 2, and from there on it goes by what it asks; refused, it gives the empty filter (`load_exactly_when`, `load_taken_when` and `refused_load` in Demand1)

  -- 1 to 8 states (1), as many bytes as their record has (2), the form (12); then the numbers as New searches them, x, P, Q and the parameters, and after them each half-turn, a lone value at place 0 by itself; then 6 of the parameters and of the kinds.
  pub load_asks_lem : (b : List ℕ) → let n = get_or b 2 0 in let v : Params = record { alpha = number_at (drop (3 + 8 * n + 16 * (n * n)) b); beta = number_at (drop (11 + 8 * n + 16 * (n * n)) b); kappa = number_at (drop (19 + 8 * n + 16 * (n * n)) b) } in let kinds = read_each 9 kind_at n (drop (27 + 8 * n + 16 * (n * n)) b) in
      load_asks b ≡ record {
        fits = true;
        sizes = record { value = n; from = 1; to = 8 } ∷ [];
        lent = of_bytes b (27 + 17 * n + 16 * (n * n)) ∷ [];
        formed = is_record b;
        stale = false;
        fresh = false;
        inputs = record { name = State; numbers = read_each 8 number_at n (drop 3 b) } ∷ record { name = Covariance; numbers = read_each 8 number_at (n * n) (drop (3 + 8 * n) b) } ∷ record { name = Noise; numbers = read_each 8 number_at (n * n) (drop (3 + 8 * n + 8 * (n * n)) b) } ∷ record { name = Lone; numbers = v.alpha ∷ v.beta ∷ v.kappa ∷ [] } ∷ turn_inputs kinds;
        plain = [];
        params = by_params n v ∷ as_kinds kinds;
      }
  load_asks_lem = asks_in

  -- The form is wrong exactly when the mark is, or a kind byte is neither 0 nor 1, or a plain kind has h bytes that aren't zero (`NoRecord`); so 12 is given exactly when that is so and nothing comes before it: three bytes, 1 to 8 states, a whole record (`BeforeRecord`).
  pub ill_formed_when : (b : List ℕ) → (is_record b ≡ false) ↔ NoRecord b
  ill_formed_when b = (λ e. (no_record b).fails e, λ w. fails_where (no_record b) w)

  pub record_when : (b : List ℕ) → ((load_answer f b).refusal ≡ verdict RECORD) ↔ (BeforeRecord b × NoRecord b)
  record_when = record_exactly f

  -- What is taken is the filter that stands there, number by number and kind by kind, and else as New leaves a filter (`Reads`); and no other filter reads so, as `Reads` has an equation for each part of a filter.
  pub read_as : (b : List ℕ) → (load_answer f b).refusal.number ≡ 0 → Reads b (load_answer f b).filter
  read_as b = taken_reads b f

  pub nothing_else_is_read : (b : List ℕ) → (load_answer f b).refusal.number ≡ 0 → (t : Filter) → Reads b t → t ≡ (load_answer f b).filter
  nothing_else_is_read b = read_only b f

  -- Bytes after a record are not read, be it taken or refused.
  pub rest_is_unread : (b rest : List ℕ) → 27 + 17 * get_or b 2 0 + 16 * (get_or b 2 0 * get_or b 2 0) ≤ length b → load_answer f (b ++ rest) ≡ load_answer f b
  rest_is_unread b rest h = rest_unread b rest (omega arith) h f

  -- ---- read, then saved (bytes of a program are bytes by their type)

  -- The record of what is read is the bytes that were read, and saving it into lent bytes that have room is taken and hands them out;
  pub read_then_saved : (b : List ℕ) → (load_answer f b).refusal.number ≡ 0 → AreBytes b → bytes_of (load_answer f b).filter ≡ take (27 + 17 * get_or b 2 0 + 16 * (get_or b 2 0 * get_or b 2 0)) b
  read_then_saved b = saved_again b f

  pub read_then_saves : (b : List ℕ) → (load_answer f b).refusal.number ≡ 0 → AreBytes b → let k = 27 + 17 * get_or b 2 0 + 16 * (get_or b 2 0 * get_or b 2 0) in (out : List ℕ) → k ≤ length out → (step f (load_answer f b).filter (reading (save out))).reply ≡ record { refusal = taken; given = []; stale = true; bytes = take k b }
  read_then_saves b = saves_again b f

  -- so two lists of bytes that read as one filter hold one record.
  pub one_record : (b c : List ℕ) → (load_answer f b).refusal.number ≡ 0 → (load_answer f c).refusal.number ≡ 0 → (load_answer f b).filter ≡ (load_answer f c).filter → AreBytes b → AreBytes c → take (27 + 17 * get_or b 2 0 + 16 * (get_or b 2 0 * get_or b 2 0)) b ≡ take (27 + 17 * get_or c 2 0 + 16 * (get_or c 2 0 * get_or c 2 0)) c
  one_record b c d e t h k = sym (read_then_saved b d h) ∙ ap bytes_of t ∙ read_then_saved c e k

  -- ---- saved, then read

  -- A filter that the demands speak of, its numbers values that an f64 has (`Storable`), saved into lent bytes and then read from them, is taken, and has its sheet, x and P, and else what New leaves (`refreshed`). So it is alike to the original,
  pub saved_then_read : {s : Filter} → Yielded f s → Storable s → (out : List ℕ) → let a = (step f s (reading (save out))).reply in a.refusal.number ≡ 0 → load_answer f (over a.bytes out) ≡ record { filter = refreshed s; refusal = taken }
  saved_then_read = restored f

  pub alike_to_the_original : {s : Filter} → Yielded f s → Storable s → (out : List ℕ) → let a = (step f s (reading (save out))).reply in a.refusal.number ≡ 0 → let b = load_answer f (over a.bytes out) in (b.refusal ≡ taken) × Alike s b.filter
  alike_to_the_original = kept f

  -- and answers every later call as the original does, refused ones and saves included (`same_told` in Demand3).
  pub answers_as_the_original : {s : Filter} → Yielded f s → Storable s → (out : List ℕ) → let a = (step f s (reading (save out))).reply in a.refusal.number ≡ 0 → (cs : List Call) → told f s cs ≡ told f (load_answer f (over a.bytes out)).filter cs
  answers_as_the_original = same_answers f

  -- ---- nothing left over: alike filters have the same record. (That saving them tells the same, after any same calls, is `same_told` in Demand3.)

  pub alike_records : (s t : Filter) → Alike s t → bytes_of s ≡ bytes_of t
  alike_records = alike_bytes f

  -- ---- a side of a pair

  -- is saved as the filter that it is with the sheet, whatever its partner has open, and the pair is left as it is; so what is said above of a filter holds of a side taken by itself, with the sheet as it stands (`sides_yielded` in Pairs). What is read back has a sheet of its own, and the partner's later changes don't reach it.
  pub side_saves : (p : Pair) (w : Side) (out : List ℕ) → ((pair_step f p w (reading (save out))).reply ≡ (step f (solo p w) (reading (save out))).reply) × ((pair_step f p w (reading (save out))).pair ≡ p)
  side_saves = side_saved f

  pub side_saved_then_read : {p : Pair} → PairYielded f p → (w : Side) → Storable (solo p w) → (out : List ℕ) → let a = (pair_step f p w (reading (save out))).reply in a.refusal.number ≡ 0 → let b = load_answer f (over a.bytes out) in (b.refusal ≡ taken) × Alike (solo p w) b.filter
  side_saved_then_read = side_kept f

  pub side_answers_as_the_original : {p : Pair} → PairYielded f p → (w : Side) → Storable (solo p w) → (out : List ℕ) → let a = (pair_step f p w (reading (save out))).reply in a.refusal.number ≡ 0 → (cs : List Call) → told f (solo p w) cs ≡ told f (load_answer f (over a.bytes out)).filter cs
  side_answers_as_the_original = side_same f

-- ---- `Storable` is no more than the code's types give: where New and the calls are lent an f64's numbers (`Fed`, `PairFed`), the numbers of a filter are an f64's after New, after load and after every call, and so are those of each side of a pair;

pub numbers_stay : {s : Filter} → Fed s → Storable s × Yielded binary64 s
numbers_stay y = (fed_storable y, fed_yielded y)

pub side_numbers_stay : {p : Pair} → PairFed p → ((w : Side) → Storable (solo p w)) × PairYielded binary64 p
side_numbers_stay y = (λ w. fed_storable (side_fed y w), pair_fed_yielded y)

-- so such a filter, stale and with nothing open, is saved into lent bytes that have room (`BeforeFresh`) and read back alike, and such a side as the filter that it is by itself;
pub fed_saved_then_read : {s : Filter} → Fed s → (out : List ℕ) → BeforeFresh s out → s.track.stale ≡ true → let a = (step binary64 s (reading (save out))).reply in let b = load_answer binary64 (over a.bytes out) in (a.refusal ≡ taken) × (b.refusal ≡ taken) × Alike s b.filter
fed_saved_then_read {s} y out h t = let e = (saved_when binary64 s out).1 (h, t) in let k = kept binary64 (fed_yielded y) (fed_storable y) out (number_of e) in (e, k.0, k.1)

pub fed_side_saved_then_read : {p : Pair} → PairFed p → (w : Side) (out : List ℕ) → BeforeFresh (solo p w) out → (track_at p w).stale ≡ true → let a = (pair_step binary64 p w (reading (save out))).reply in let b = load_answer binary64 (over a.bytes out) in (a.refusal ≡ taken) × (b.refusal ≡ taken) × Alike (solo p w) b.filter
fed_side_saved_then_read {p} y w out h t = let e = ap (λ (r : Reply). r.refusal) (side_saves binary64 p w out).0 ∙ (saved_when binary64 (solo p w) out).1 (h, t) in let k = side_kept binary64 (pair_fed_yielded y) w (fed_storable (side_fed y w)) out (number_of e) in (e, k.0, k.1)

-- and what is read answers every later call as the original does.
pub fed_answers_as_the_original : {s : Filter} → Fed s → (out : List ℕ) → let a = (step binary64 s (reading (save out))).reply in a.refusal.number ≡ 0 → (cs : List Call) → told binary64 s cs ≡ told binary64 (load_answer binary64 (over a.bytes out)).filter cs
fed_answers_as_the_original y = same_answers binary64 (fed_yielded y) (fed_storable y)

pub fed_side_answers_as_the_original : {p : Pair} → PairFed p → (w : Side) (out : List ℕ) → let a = (pair_step binary64 p w (reading (save out))).reply in a.refusal.number ≡ 0 → (cs : List Call) → told binary64 (solo p w) cs ≡ told binary64 (load_answer binary64 (over a.bytes out)).filter cs
fed_side_answers_as_the_original y w = side_same binary64 (pair_fed_yielded y) w (fed_storable (side_fed y w))
