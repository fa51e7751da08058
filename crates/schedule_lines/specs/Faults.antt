-- The texts of faults.
use Rattle.std.specs.Prelude.{ℕ, List, codes}
use Rattle.schedule_lines.specs.declared.faults.{Fault.{Fault}, FaultKind.{FaultKind}}
use Rattle.schedule_lines.specs.declared.faults.Fault.TheVariants.{TooManyLines, LineTooLong, CutOff, ConfigExpected, ConfigTwice, UnknownCommand, WrongNumberOfWords, NoSuchTask, BadNumber, BadWord, ReadFailed, WriteFailed, Refused}
use Rattle.schedule_lines.specs.declared.faults.FaultKind.TheVariants.{Schedule, RaceExpected, RaceTwice, UnderWay, CallExpected, TooManyCalls, HookTwice, BranchExpected, NoCallBefore, NameExpected, NoSuchCall, HistoryExpected, NothingUnderWay, BadAnswer}

-- the text that is printed of a fault of a schedule
abbrev pub text_of : Fault → List ℕ
text_of TooManyLines = codes "too many lines"
text_of LineTooLong = codes "line too long"
text_of CutOff = codes "cut off"
text_of ConfigExpected = codes "config expected"
text_of ConfigTwice = codes "config twice"
text_of UnknownCommand = codes "unknown command"
text_of WrongNumberOfWords = codes "wrong number of words"
text_of NoSuchTask = codes "no such task"
text_of BadNumber = codes "bad number"
text_of BadWord = codes "bad word"
text_of ReadFailed = codes "read failed"
text_of WriteFailed = codes "write failed"
text_of (Refused cause) = codes "refused"

-- that of a fault of any text
abbrev pub kind_text : FaultKind → List ℕ
kind_text (Schedule fault) = text_of fault
kind_text RaceExpected = codes "race expected"
kind_text RaceTwice = codes "race twice"
kind_text UnderWay = codes "task under way"
kind_text CallExpected = codes "call expected"
kind_text TooManyCalls = codes "too many calls"
kind_text HookTwice = codes "hook twice"
kind_text BranchExpected = codes "ok or refused expected"
kind_text NoCallBefore = codes "no call before"
kind_text NameExpected = codes "T.K expected"
kind_text NoSuchCall = codes "no such call before"
kind_text HistoryExpected = codes "history expected"
kind_text NothingUnderWay = codes "nothing under way"
kind_text BadAnswer = codes "bad answer"
