-- The numbers of the refusals. They are not in the order of the table: Ended was added last.
use Rattle.std.specs.Prelude.{ℕ}
use Rattle.decision_book.specs.declared.call.Reply.{Reply}
use Rattle.decision_book.specs.declared.call.Reply.TheVariants.{Accepted, Full, Closed, UnknownClone, Ended, NameTaken}
use Rattle.decision_book.specs.declared.call.Reply.TheVariants.{TooManyClones, UnknownStation, WrongParameter}
use Rattle.decision_book.specs.declared.call.Reply.TheVariants.{OutOfRange, ListFull, PastHorizon, Late}

-- the number of a refusal; 0 for Accepted
abbrev pub reply_number : Reply → ℕ
reply_number Accepted = 0
reply_number Full = 1
reply_number Closed = 2
reply_number UnknownClone = 3
reply_number NameTaken = 4
reply_number TooManyClones = 5
reply_number UnknownStation = 6
reply_number WrongParameter = 7
reply_number OutOfRange = 8
reply_number ListFull = 9
reply_number PastHorizon = 10
reply_number (Late front) = 11
reply_number (Ended at) = 12
