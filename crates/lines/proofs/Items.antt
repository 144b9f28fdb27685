-- The items of a list, listed by a loop that steps through it: what a step tells.
use Prim.Native.Nat.{ℕ, zero, suc, ◌<◌}
use mathlib.Core.Path.{◌≡◌, refl, sym, subst}
use mathlib.Core.List.{List, [], ◌++◌}
use native.Mathlib.Omega.{arith}
use Rattle.format.specs.Format.{Format, concat_map}
use Rattle.format.specs.View.{View, Seen, seen, missed, view, Next, item, done, broken, stepped, steps}
use Rattle.format.proofs.Look.{stepped-at}
use Rattle.std.specs.Prelude.{Result, Option}
use Rattle.refusal.specs.declared.Refusal.{Refusal}
use Rattle.wire.specs.Says.{next_says}
use Rattle.wire.specs.declared.List as wire
use Rattle.text.specs.Prints.{Prints}
use Rattle.text.proofs.Loops.{Onto, onto-more, onto-all}
use Rattle.lines.specs.Lines.{Form, Listed, lines, item_lines, Lists}

-- what a step tells of the lines of what is left
module _ {f : Format} (l : Listed f) (s : List ℕ) (at : ℕ) where
  abbrev Told : ℕ → Next (View f) → Type 0
  Told n (item v e m) = (m < n) × (item_lines l s at n ≡ lines l s v ++ item_lines l s e m)
  Told n done = item_lines l s at n ≡ []
  Told n (broken k) = item_lines l s at n ≡ []

  by : (n : ℕ) (r : Seen (View f)) → view f s at ≡ r → Told n (stepped f s at n)
  unfolding item_lines steps concat_map stepped
  by zero r q = refl
  by (suc n) (seen a e) q = rw (stepped-at f s at n q) (omega arith, rw (stepped-at f s at n q) refl)
  by (suc n) (missed k) q = rw (stepped-at f s at n q) (rw (stepped-at f s at n q) refl)

  told : (n : ℕ) {x : Next (View f)} → stepped f s at n ≡ x → Told n x
  told n e = rw e at (by n (view f s at) refl)

  -- an item that was listed, and what is left behind it
  pub less : {e m : ℕ} {v : View f} (n : ℕ) → item v e m ≡ stepped f s at n → m < n
  less n e = (told n (sym e)).0

  pub goes_on : {from e m p q q' : ℕ} {v : View f} {whole o o' o₀ : List ℕ} (n : ℕ) → item v e m ≡ stepped f s at n
      → Onto from (item_lines l s at n) q o whole p o₀ → Lists from l s v q o q' o' → Onto from (item_lines l s e m) q' o' whole p o₀
  goes_on n e a b = onto-more (told n (sym e)).1 a b.puts

  -- no item left
  pub ends : {from p q : ℕ} {whole o o₀ : List ℕ} (n : ℕ) → done ≡ stepped f s at n → Onto from (item_lines l s at n) q o whole p o₀ → Prints from whole p o₀ q o
  ends n e a = onto-all (told n (sym e)) a

  -- an item that does not read
  pub stops : {from k p q : ℕ} {whole o o₀ : List ℕ} (n : ℕ) → broken k ≡ stepped f s at n → Onto from (item_lines l s at n) q o whole p o₀ → Prints from whole p o₀ q o
  stops n e a = onto-all (told n (sym e)) a

-- a step by the form under which an item is listed
pub listed-step : {A N : Type 0} {form : Form A} {f : Format} {of : A → View f} (count : N → ℕ) (r : Result (Option (A × wire.List A N)) Refusal) (s : List ℕ) (at n : ℕ)
    → form ≡ (f, of) → next_says of count r ≡ stepped f s at n → next_says form.1 count r ≡ stepped form.0 s at n
listed-step {A = A} count r s at n same e = subst (λ (x : Form A). next_says x.1 count r ≡ stepped x.0 s at n) (sym same) e
