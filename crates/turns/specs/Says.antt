-- Which kind and turn of the definition those of the code are.
use Rattle.protocol.specs.Kind as kind
use Rattle.writing.specs.Writer as writing
use Rattle.turns.specs.declared.Kind.{Kind}
use Rattle.turns.specs.declared.Kind.TheVariants as kind-case
use Rattle.turns.specs.declared.Turn.{Turn}
use Rattle.turns.specs.declared.Turn.TheVariants as turn-case

abbrev pub kind_is : Kind → kind.Kind
kind_is kind-case.EnterShow = kind.EnterShow
kind_is kind-case.FixtureList = kind.FixtureList
kind_is kind-case.FixtureRemove = kind.FixtureRemove
kind_is kind-case.LaserFeedControl = kind.LaserFeedControl
kind_is kind-case.Capa = kind.Capa
kind_is kind-case.UNam = kind.UNam
kind_is kind-case.ChBk = kind.ChBk
kind_is kind-case.ChLs = kind.ChLs
kind_is kind-case.Sxus = kind.Sxus
kind_is kind-case.Ptch = kind.Ptch
kind_is kind-case.UPtc = kind.UPtc
kind_is kind-case.SPtc = kind.SPtc
kind_is kind-case.Sele = kind.Sele
kind_is kind-case.DeSe = kind.DeSe
kind_is kind-case.SFra = kind.SFra
kind_is kind-case.Fram = kind.Fram
kind_is kind-case.PNam = kind.PNam
kind_is kind-case.PLoc = kind.PLoc
kind_is kind-case.LaserFeedList = kind.LaserFeedList
kind_is kind-case.LaserFeedFrame = kind.LaserFeedFrame

abbrev pub turn_is : Turn → writing.Turn
turn_is turn-case.Idle = writing.idle
turn_is (turn-case.Body k) = writing.body_due (kind_is k)
turn_is (turn-case.Items k n) = writing.items_due (kind_is k) n
turn_is (turn-case.Parts n i) = writing.parts_due n i
