-- Each return by the tests before it. Assumes nothing.
use borrow.Author.Tests.{not-true, not-false}
use Rattle.std.specs.Float.{binary64}
use Rattle.records.proofs.Saved.{tested, turned_away, not_stale, saved, room}
use Rattle.records.proofs.save.Goals as goal

pub returns-then-refusal-ne0 : goal.returns-then-refusal-ne0
returns-then-refusal-ne0 c =
    let a = c.args in
    let is = tested binary64 a.f a.out.now c.early_refusal-refusal.ensures c.is_shut-fits.ensures c.is_sized-sized.ensures c.record_length.ensures in
    let r = turned_away binary64 a.f a.out.now is c.if-refusal-ne0.true in
    record { value = r.0; out_after = r.1 }

pub returns-then-not-f : goal.returns-then-not-f
returns-then-not-f c =
    let a = c.args in
    let is = tested binary64 a.f a.out.now c.early_refusal-refusal.ensures c.is_shut-fits.ensures c.is_sized-sized.ensures c.record_length.ensures in
    let r = not_stale binary64 a.f a.out.now is c.if-refusal-ne0.false c.placeless.ensures (not-true _ c.if-not-f.true) in
    record { value = r.0; out_after = r.1 }

pub put_record-requires : goal.put_record-requires
put_record-requires c =
    let a = c.args in
    let is = tested binary64 a.f a.out.now c.early_refusal-refusal.ensures c.is_shut-fits.ensures c.is_sized-sized.ensures c.record_length.ensures in
    room binary64 a.f a.out.now is c.if-refusal-ne0.false

pub returns : goal.returns
returns c =
    let a = c.args in
    let is = tested binary64 a.f a.out.now c.early_refusal-refusal.ensures c.is_shut-fits.ensures c.is_sized-sized.ensures c.record_length.ensures in
    let r = saved binary64 a.f a.out.now is c.if-refusal-ne0.false (not-false _ c.if-not-f.false) c.put_record.ensures in
    record { value = r.0; out_after = r.1 }
