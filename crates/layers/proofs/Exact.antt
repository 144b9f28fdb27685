-- The code's layers are the definition's, and the lookup's answer is what it says: nothing is lost.
use Rattle.std.proofs.Common.{◌≡◌, refl, ap}
use Rattle.std.proofs.Math.Option as math
use Rattle.std.specs.Prelude.{Option, Some, None}
use Rattle.protocol.specs.Layer as layer
use Rattle.layers.specs.Says.{layer_is, layer_says}
use Rattle.layers.specs.declared.Layer.{Layer}
use Rattle.layers.specs.declared.Layer.TheVariants as layer-case

abbrev pub is_layer : layer.Layer → Layer
is_layer layer.PINF = layer-case.Pinf
is_layer layer.SDMX = layer-case.Sdmx
is_layer layer.FPTC = layer-case.Fptc
is_layer layer.FSEL = layer-case.Fsel
is_layer layer.FINF = layer-case.Finf
is_layer layer.CAEX = layer-case.Caex

pub layer-exact : (l : Layer) → l ≡ is_layer (layer_is l)
layer-exact layer-case.Pinf = refl
layer-exact layer-case.Sdmx = refl
layer-exact layer-case.Fptc = refl
layer-exact layer-case.Fsel = refl
layer-exact layer-case.Finf = refl
layer-exact layer-case.Caex = refl

abbrev is_found : math.Option layer.Layer → Option Layer
is_found (math.some l) = Some (is_layer l)
is_found math.none = None

pub found-exact : (r : Option Layer) → r ≡ is_found (layer_says r)
found-exact (Some l) = ap (λ (x : Layer). Some x) (layer-exact l)
found-exact None = refl
