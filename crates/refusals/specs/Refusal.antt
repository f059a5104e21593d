-- "Refusal list, in checking order": the paper's number of each case, and the numbers that the answers of document 02's requests
-- have. Assumes nothing.
use Rattle.std.specs.Prelude.{ℕ}
use Rattle.refusals.specs.declared.Refusal.{Refusal}
use Rattle.refusals.specs.declared.Refusal.TheVariants.{Names, Form, LineCount, Range, ResourceGap, NoPartner, PointOrder}
use Rattle.refusals.specs.declared.Refusal.TheVariants.{RepeatedPoint, UnusedField, NoParts, CommonPart, TargetPoint}
use Rattle.refusals.specs.declared.Refusal.TheVariants.{TooManyPositions, TooShort, NotRealisable, RunRange, OutcomeRange, NotOpen}
use Rattle.refusals.specs.declared.Refusal.TheVariants.{AtEnd, LimitResource, FullCell, UnreachedPoint, RejectLine, Chapters}
use Rattle.refusals.specs.declared.Refusal.TheVariants.{RunNumber}

abbrev pub number_of : Refusal → ℕ
number_of Names = 1
number_of Form = 2
number_of LineCount = 3
number_of Range = 4
number_of ResourceGap = 5
number_of NoPartner = 6
number_of PointOrder = 7
number_of RepeatedPoint = 8
number_of UnusedField = 9
number_of NoParts = 10
number_of CommonPart = 11
number_of TargetPoint = 12
number_of TooManyPositions = 13
number_of TooShort = 14
number_of NotRealisable = 15
number_of RunRange = 16
number_of OutcomeRange = 17
number_of NotOpen = 18
number_of AtEnd = 19
number_of LimitResource = 20
number_of FullCell = 21
number_of UnreachedPoint = 22
number_of RejectLine = 23
number_of Chapters = 24
number_of RunNumber = 25
