-- The code's kinds and turns are the definition's: nothing is lost.
use mathlib.Core.Path.{◌≡◌, refl, ap}
use Rattle.protocol.specs.Kind as kind
use Rattle.writing.specs.Writer as writing
use Rattle.turns.specs.Says.{kind_is, turn_is}
use Rattle.turns.specs.declared.Kind.{Kind}
use Rattle.turns.specs.declared.Kind.TheVariants as kind-case
use Rattle.turns.specs.declared.Turn.{Turn}
use Rattle.turns.specs.declared.Turn.TheVariants as turn-case

abbrev pub is_kind : kind.Kind → Kind
is_kind kind.EnterShow = kind-case.EnterShow
is_kind kind.FixtureList = kind-case.FixtureList
is_kind kind.FixtureRemove = kind-case.FixtureRemove
is_kind kind.LaserFeedControl = kind-case.LaserFeedControl
is_kind kind.Capa = kind-case.Capa
is_kind kind.UNam = kind-case.UNam
is_kind kind.ChBk = kind-case.ChBk
is_kind kind.ChLs = kind-case.ChLs
is_kind kind.Sxus = kind-case.Sxus
is_kind kind.Ptch = kind-case.Ptch
is_kind kind.UPtc = kind-case.UPtc
is_kind kind.SPtc = kind-case.SPtc
is_kind kind.Sele = kind-case.Sele
is_kind kind.DeSe = kind-case.DeSe
is_kind kind.SFra = kind-case.SFra
is_kind kind.Fram = kind-case.Fram
is_kind kind.PNam = kind-case.PNam
is_kind kind.PLoc = kind-case.PLoc
is_kind kind.LaserFeedList = kind-case.LaserFeedList
is_kind kind.LaserFeedFrame = kind-case.LaserFeedFrame

pub kind-exact : (k : Kind) → k ≡ is_kind (kind_is k)
kind-exact kind-case.EnterShow = refl
kind-exact kind-case.FixtureList = refl
kind-exact kind-case.FixtureRemove = refl
kind-exact kind-case.LaserFeedControl = refl
kind-exact kind-case.Capa = refl
kind-exact kind-case.UNam = refl
kind-exact kind-case.ChBk = refl
kind-exact kind-case.ChLs = refl
kind-exact kind-case.Sxus = refl
kind-exact kind-case.Ptch = refl
kind-exact kind-case.UPtc = refl
kind-exact kind-case.SPtc = refl
kind-exact kind-case.Sele = refl
kind-exact kind-case.DeSe = refl
kind-exact kind-case.SFra = refl
kind-exact kind-case.Fram = refl
kind-exact kind-case.PNam = refl
kind-exact kind-case.PLoc = refl
kind-exact kind-case.LaserFeedList = refl
kind-exact kind-case.LaserFeedFrame = refl

abbrev pub is_turn : writing.Turn → Turn
is_turn writing.idle = turn-case.Idle
is_turn (writing.body_due k) = turn-case.Body (is_kind k)
is_turn (writing.items_due k n) = turn-case.Items (is_kind k) n
is_turn (writing.parts_due n i) = turn-case.Parts n i

pub turn-exact : (t : Turn) → t ≡ is_turn (turn_is t)
turn-exact turn-case.Idle = refl
turn-exact (turn-case.Body k) = ap turn-case.Body (kind-exact k)
turn-exact (turn-case.Items k n) = ap (λ (j : Kind). turn-case.Items j n) (kind-exact k)
turn-exact (turn-case.Parts n i) = refl
