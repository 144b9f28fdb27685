use Prim.Native.Nat.{ℕ, ◌+◌}
use mathlib.Core.Path.{◌≡◌, ap, ◌∙◌}
use mathlib.Core.List.{List, ◌++◌}
use native.Mathlib.Omega.{arith}
use lib.ListN.{length, take, drop}
use Rattle.patching.specs.Entry.{Entry}
use Rattle.patching.specs.Book.{others, overwrite}
use Rattle.book.specs.Scan.{remove_at}
use Rattle.book.proofs.Replaced.{hole, dropped-own, others-overwrite, overwrite-as-many, put-length, put-overwrite}
use Rattle.book.proofs.replace.Goals as goal

pub shift-requires : goal.shift-requires
shift-requires c = let a = c.args in
    let p = c.requires in
    let r = hole a.entry a.entries.now a.held p.0 a.place.hole a.place.own_count p.1.owned c.if-place-lt2.true p.2 in
    (r.within, omega (arith, p.1.stands.0, p.2))

pub returns-then-place-lt2 : goal.returns-then-place-lt2
returns-then-place-lt2 c = let a = c.args in
    let p = c.requires in
    let r = hole a.entry a.entries.now a.held p.0 a.place.hole a.place.own_count p.1.owned c.if-place-lt2.true p.2 in (
      r.count ∙ put-length a.entry a.entries.now a.held p.0 a.place.to p.1.stands,
      put-overwrite a.entry a.entries.now a.held p.0 a.place.to p.1.stands (remove_at a.place.hole a.entries.now) _ r.others-stay c.shift.ensures,
    )

pub shift-requires-2 : goal.shift-requires-2
shift-requires-2 c = let a = c.args in
    let p = c.requires in
    let d = dropped-own a.entry a.entries.now a.held p.0 (rw c.identifier.ensures at c.drop_one-kept.ensures) in
    let m = ap length d.1 ∙ overwrite-as-many a.entry a.entries.now a.held p.0 (omega (arith, p.2)) in
    (omega (arith, d.0, m, p.2), omega (arith, m, p.1.stands.0, p.2))

pub returns : goal.returns
returns c = let a = c.args in
    let p = c.requires in
    let k = c.drop_one-kept in
    let d = dropped-own a.entry a.entries.now a.held p.0 (rw c.identifier.ensures at k.ensures) in
    let O : List Entry = others a.entry (take a.held a.entries.now) in
    let left : List Entry = k.new.entries ++ drop a.held a.entries.now in
    let h : remove_at k.result left ≡ remove_at (length O) (overwrite O a.entries.now) =
    ap (λ (n : ℕ). remove_at n left) d.0 ∙ ap (remove_at (length O)) d.1 in (
      ap (λ (n : ℕ). n + 1) d.0 ∙ put-length a.entry a.entries.now a.held p.0 a.place.to p.1.stands,
      put-overwrite a.entry a.entries.now a.held p.0 a.place.to p.1.stands (remove_at k.result left) _
          (h ∙ others-overwrite a.entry a.entries.now a.held p.0) c.shift-2.ensures,
    )
