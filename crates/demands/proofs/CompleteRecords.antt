-- Complete contracts of records, as Complete.antt has them of the others: a line for each function of `pieces`, of `records` and of what is hex in `script` that can be called from outside (but `marked_bytes`, docs/CONTRACTS.md). Assumes nothing.
use Prim.Native.Nat.{ℕ}
use mathlib.Core.Path.{refl, ap}
use mathlib.Core.List.{List}
use Rattle.demands.proofs.Complete.{OneAnswer, by}
use Rattle.pieces.proofs.word.word_at.Kinds as word_at_of
use Rattle.pieces.proofs.word.word_at.Reads as word_at
use Rattle.pieces.proofs.word.put_word.Kinds as put_word_of
use Rattle.pieces.proofs.word.put_word.Reads as put_word
use Rattle.pieces.proofs.numbers.put_numbers.Kinds as put_numbers_of
use Rattle.pieces.proofs.numbers.put_numbers.Reads as put_numbers
use Rattle.pieces.proofs.numbers.number_at.Kinds as number_at_of
use Rattle.pieces.proofs.numbers.number_at.Reads as number_at
use Rattle.pieces.proofs.numbers.vector_at.Kinds as vector_at_of
use Rattle.pieces.proofs.numbers.vector_at.Reads as vector_at
use Rattle.pieces.proofs.numbers.matrix_at.Kinds as matrix_at_of
use Rattle.pieces.proofs.numbers.matrix_at.Reads as matrix_at
use Rattle.pieces.proofs.kinds.put_kind.Kinds as put_kind_of
use Rattle.pieces.proofs.kinds.put_kind.Reads as put_kind
use Rattle.pieces.proofs.kinds.put_kinds.Kinds as put_kinds_of
use Rattle.pieces.proofs.kinds.put_kinds.Reads as put_kinds
use Rattle.pieces.proofs.kinds.kind_at.Kinds as kind_at_of
use Rattle.pieces.proofs.kinds.kind_at.Reads as kind_at
use Rattle.pieces.proofs.kinds.is_formed.Kinds as is_formed_of
use Rattle.pieces.proofs.kinds.is_formed.Reads as is_formed
use Rattle.pieces.proofs.kinds.kinds_at.Kinds as kinds_at_of
use Rattle.pieces.proofs.kinds.kinds_at.Reads as kinds_at
use Rattle.pieces.proofs.kinds.all_formed.Kinds as all_formed_of
use Rattle.pieces.proofs.kinds.all_formed.Reads as all_formed
use Rattle.records.proofs.save.Kinds as save_of
use Rattle.records.proofs.save.Reads as save
use Rattle.records.proofs.load.Kinds as load_of
use Rattle.records.proofs.load.Reads as load
use Rattle.records.proofs.record_length.Kinds as record_length_of
use Rattle.records.proofs.record_length.Reads as record_length
use Rattle.script.proofs.hex.bytes_at.Kinds as bytes_at_of
use Rattle.script.proofs.hex.bytes_at.Reads as bytes_at
use Rattle.script.proofs.hex.put_bytes.Kinds as put_bytes_of
use Rattle.script.proofs.hex.put_bytes.Reads as put_bytes
use Rattle.script.proofs.write.less.Kinds as less_of
use Rattle.script.proofs.write.less.Reads as less

pub word_at_one : OneAnswer word_at_of.ps word_at_of.r word_at.Learnt
word_at_one κs a z z' w w' p q = (by p q, refl)

pub put_word_one : OneAnswer put_word_of.ps put_word_of.r put_word.Learnt
put_word_one κs a z z' w w' p q = (refl, ap (λ (l : List ℕ). (l, (tt, (tt, tt)))) (by p q))

pub put_numbers_one : OneAnswer put_numbers_of.ps put_numbers_of.r put_numbers.Learnt
put_numbers_one κs a z z' w w' p q = (refl, ap (λ (l : List ℕ). (tt, (tt, (l, (tt, tt))))) (by p q))

pub number_at_one : OneAnswer number_at_of.ps number_at_of.r number_at.Learnt
number_at_one κs a z z' w w' p q = (by p q, refl)

pub vector_at_one : OneAnswer vector_at_of.ps vector_at_of.r vector_at.Learnt
vector_at_one κs a z z' w w' p q = (by p q, refl)

pub matrix_at_one : OneAnswer matrix_at_of.ps matrix_at_of.r matrix_at.Learnt
matrix_at_one κs a z z' w w' p q = (by p q, refl)

pub put_kind_one : OneAnswer put_kind_of.ps put_kind_of.r put_kind.Learnt
put_kind_one κs a z z' w w' p q = (refl, ap (λ (l : List ℕ). (tt, (l, (tt, tt)))) (by p q))

pub put_kinds_one : OneAnswer put_kinds_of.ps put_kinds_of.r put_kinds.Learnt
put_kinds_one κs a z z' w w' p q = (refl, ap (λ (l : List ℕ). (tt, (tt, (l, (tt, tt))))) (by p q))

pub kind_at_one : OneAnswer kind_at_of.ps kind_at_of.r kind_at.Learnt
kind_at_one κs a z z' w w' p q = (by p q, refl)

pub is_formed_one : OneAnswer is_formed_of.ps is_formed_of.r is_formed.Learnt
is_formed_one κs a z z' w w' p q = (by p q, refl)

pub kinds_at_one : OneAnswer kinds_at_of.ps kinds_at_of.r kinds_at.Learnt
kinds_at_one κs a z z' w w' p q = (by p q, refl)

pub all_formed_one : OneAnswer all_formed_of.ps all_formed_of.r all_formed.Learnt
all_formed_one κs a z z' w w' p q = (by p q, refl)

pub save_one : OneAnswer save_of.ps save_of.r save.Learnt
save_one κs a z z' w w' p q = (by p.0 q.0, ap (λ (l : List ℕ). (tt, (l, tt))) (by p.1 q.1))

pub load_one : OneAnswer load_of.ps load_of.r load.Learnt
load_one κs a z z' w w' p q = (by p q, refl)

pub record_length_one : OneAnswer record_length_of.ps record_length_of.r record_length.Learnt
record_length_one κs a z z' w w' p q = (by p q, refl)

pub bytes_at_one : OneAnswer bytes_at_of.ps bytes_at_of.r bytes_at.Learnt
bytes_at_one κs a z z' w w' p q = (by p.0 q.0, ap (λ (l : List ℕ). (tt, (tt, (l, tt)))) (by p.1 q.1))

pub put_bytes_one : OneAnswer put_bytes_of.ps put_bytes_of.r put_bytes.Learnt
put_bytes_one κs a z z' w w' p q = (by p.0 q.0, ap (λ (l : List ℕ). (l, (tt, (tt, tt)))) (by p.1 q.1))

pub less_one : OneAnswer less_of.ps less_of.r less.Learnt
less_one κs a z z' w w' p q = (by p q, refl)
