-- The texts of what is expected.
use Rattle.std.specs.Prelude.{ℕ, List, codes}
use Rattle.race_conditions.specs.declared.faults.Expected.{Expected}
use Rattle.race_conditions.specs.declared.faults.Expected.TheVariants.{Fact, Shallower, Close, End, Task, DotOrHolds, Call, EqualsOrDue, Answer, Code, Held, Equals, Access, Mount, Level, Stage, Holder, Node, NodeFact}
use Rattle.race_conditions.specs.declared.faults.Expected.TheVariants.{Dot, FlagsOrCount, Count, Value}

abbrev pub text_of : Expected → List ℕ
text_of Fact = codes "a fact, '!' or '('"
text_of Shallower = codes "a condition of fewer parts"
text_of Close = codes "')'"
text_of End = codes "'&', '|' or the end"
text_of Task = codes "a task"
text_of DotOrHolds = codes "'.' or 'holds'"
text_of Call = codes "a call of the task"
text_of EqualsOrDue = codes "'=' or 'due'"
text_of Answer = codes "'ok', 'refused' or 'skipped'"
text_of Code = codes "a code"
text_of Held = codes "'mount', 'level' or 'file'"
text_of Equals = codes "'='"
text_of Access = codes "'ro' or 'rw'"
text_of Mount = codes "a mount"
text_of Level = codes "a level"
text_of Stage = codes "a stage"
text_of Holder = codes "'kernel' or 'user'"
text_of Node = codes "a node"
text_of NodeFact = codes "'free', 'file', 'dir', 'dirty' or 'removed'"
text_of Dot = codes "'.'"
text_of FlagsOrCount = codes "'flags', or 'cpu' and a processor,"
text_of Count = codes "'cpu' and a processor"
text_of Value = codes "a value of the word"
