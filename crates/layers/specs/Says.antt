-- Which layer of the definition each of the code is, and what the lookup of a cookie says.
use Rattle.std.specs.Prelude.{Option, Some, None}
use Rattle.std.proofs.Math.Option as math
use Rattle.protocol.specs.Layer as layer
use Rattle.layers.specs.declared.Layer.{Layer}
use Rattle.layers.specs.declared.Layer.TheVariants as layer-case

abbrev pub layer_is : Layer → layer.Layer
layer_is layer-case.Pinf = layer.PINF
layer_is layer-case.Sdmx = layer.SDMX
layer_is layer-case.Fptc = layer.FPTC
layer_is layer-case.Fsel = layer.FSEL
layer_is layer-case.Finf = layer.FINF
layer_is layer-case.Caex = layer.CAEX

abbrev pub layer_says : Option Layer → math.Option layer.Layer
layer_says (Some l) = math.some (layer_is l)
layer_says None = math.none
