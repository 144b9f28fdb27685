use native.Mathlib.Omega.{arith}
use Rattle.std.proofs.Common.{ℕ, ◌≡◌, refl, sym, ap, ◌∙◌}
use Rattle.std.proofs.Math.Option.{some}
use Rattle.format.specs.Fault.{any}
use Rattle.protocol.specs.Layer.{Layer, PINF, SDMX, FPTC, FSEL, FINF, CAEX, cookie, layer_of}
use Rattle.protocol.proofs.Every.{every}
use Rattle.protocol.proofs.Lookup.{layer-found, none_of}
use Rattle.layers.proofs.Layer.of.Goals as goal

-- a layer is found by its cookie
found_at : {l : Layer} {c : ℕ} → c ≡ cookie l → some l ≡ layer_of c
found_at {l} e = sym (ap layer_of e ∙ layer-found l)

pub returns-in-1481458771 : goal.returns-in-1481458771
returns-in-1481458771 c = found_at c.in-1481458771.is

pub returns-in-1129599046 : goal.returns-in-1129599046
returns-in-1129599046 c = found_at c.in-1129599046.is

pub returns-in-1279611718 : goal.returns-in-1279611718
returns-in-1279611718 c = found_at c.in-1279611718.is

pub returns-in-1179535686 : goal.returns-in-1179535686
returns-in-1179535686 c = found_at c.in-1179535686.is

pub returns-in-1179535696 : goal.returns-in-1179535696
returns-in-1179535696 c = found_at c.in-1179535696.is

pub returns-in-1480933699 : goal.returns-in-1480933699
returns-in-1480933699 c = found_at c.in-1480933699.is

-- none of the six cookies, in whichever order they are tried
pub returns-in_default : goal.returns-in_default
unfolding every any
returns-in_default c = sym (
    none_of {u = cookie SDMX} {v = cookie FPTC} {w = cookie FSEL} {x = cookie FINF} {y = cookie PINF} {z = cookie CAEX}
    (omega arith) (omega arith) (omega arith) (omega arith) (omega arith) (omega arith) refl
    )
