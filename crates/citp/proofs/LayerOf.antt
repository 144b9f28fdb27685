-- Every message of a layer is of a kind of that layer.
use mathlib.Core.Path.{◌≡◌, refl}
use Rattle.protocol.specs.Layer.{PINF, SDMX, FPTC, FSEL, FINF, CAEX}
use Rattle.protocol.specs.Kind.{layer}
use Rattle.pinf.specs.Says as pinf
use Rattle.pinf.specs.declared.Message as pinf-message
use Rattle.pinf.specs.declared.Message.TheVariants as pinf-case
use Rattle.sdmx.specs.Says as sdmx
use Rattle.sdmx.specs.declared.Message as sdmx-message
use Rattle.sdmx.specs.declared.Message.TheVariants as sdmx-case
use Rattle.fptc.specs.Says as fptc
use Rattle.fptc.specs.declared.Message as fptc-message
use Rattle.fptc.specs.declared.Message.TheVariants as fptc-case
use Rattle.fsel.specs.Says as fsel
use Rattle.fsel.specs.declared.Message as fsel-message
use Rattle.fsel.specs.declared.Message.TheVariants as fsel-case
use Rattle.finf.specs.Says as finf
use Rattle.finf.specs.declared.Message as finf-message
use Rattle.finf.specs.declared.Message.TheVariants as finf-case
use Rattle.caex.specs.Says as caex
use Rattle.caex.specs.declared.Message as caex-message
use Rattle.caex.specs.declared.Message.TheVariants as caex-case

pub pinf-layer : (m : pinf-message.Message) → layer (pinf.message_kind m) ≡ PINF
pinf-layer (pinf-case.PNam x) = refl
pinf-layer (pinf-case.PLoc x) = refl

pub sdmx-layer : (m : sdmx-message.Message) → layer (sdmx.message_kind m) ≡ SDMX
sdmx-layer (sdmx-case.Capa x) = refl
sdmx-layer (sdmx-case.UNam x) = refl
sdmx-layer (sdmx-case.ChBk x) = refl
sdmx-layer (sdmx-case.ChLs x) = refl
sdmx-layer (sdmx-case.Sxus x) = refl

pub fptc-layer : (m : fptc-message.Message) → layer (fptc.message_kind m) ≡ FPTC
fptc-layer (fptc-case.Ptch x) = refl
fptc-layer (fptc-case.UPtc x) = refl
fptc-layer (fptc-case.SPtc x) = refl

pub fsel-layer : (m : fsel-message.Message) → layer (fsel.message_kind m) ≡ FSEL
fsel-layer (fsel-case.Sele x) = refl
fsel-layer (fsel-case.DeSe x) = refl

pub finf-layer : (m : finf-message.Message) → layer (finf.message_kind m) ≡ FINF
finf-layer (finf-case.SFra x) = refl
finf-layer (finf-case.Fram x) = refl

pub caex-layer : (m : caex-message.Message) → layer (caex.message_kind m) ≡ CAEX
caex-layer (caex-case.EnterShow x) = refl
caex-layer (caex-case.FixtureList x) = refl
caex-layer (caex-case.FixtureRemove x) = refl
caex-layer (caex-case.LaserFeedControl x) = refl
caex-layer (caex-case.LaserFeedList x) = refl
caex-layer (caex-case.LaserFeedFrame x) = refl
