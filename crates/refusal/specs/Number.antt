-- The number of each refusal.
use Rattle.std.specs.Prelude.{ℕ}
use Rattle.refusal.specs.declared.Refusal.{Refusal}
use Rattle.refusal.specs.declared.Refusal.TheVariants as refusal

abbrev pub number : Refusal → ℕ
number refusal.ShortHeader = 1
number refusal.NotCitp = 2
number refusal.Version = 3
number refusal.MessageSize = 4
number refusal.ShortStream = 5
number refusal.ShortLayerHeader = 6
number refusal.ShortBody = 7
number refusal.NoZero = 8
number refusal.MessageType = 9
number refusal.IdentifierType = 10
number refusal.HoldsZero = 11
number refusal.TooLong = 12
number refusal.ShortOutput = 13
number refusal.OutOfTurn = 14
number refusal.PacketSize = 15
number refusal.Channels = 16
number refusal.Shared = 17
number refusal.Full = 18
number refusal.OverLimit = 19
number refusal.PastUniverse = 20
