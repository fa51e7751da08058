-- The commands on a task: what names each, and how many words its line has.
use Rattle.std.specs.Prelude.{ℕ, Bool, true, false, ◌==◌, ◌||◌, List, [], ◌∷◌, codes, Option, bytes_eq, find}
use Rattle.schedule_text.specs.declared.verbs.Verb.{Verb, TheVariants.{Run, Step, Want, TryWant, WantWrite, Drop, DropWrite, Start, TryStart, End}}
use Rattle.schedule_text.specs.declared.verbs.Verb.TheVariants.{Callback, Change, TryChange, Remount, Freeze, Thaw, Create, Remove, Grow, Move}
use Rattle.schedule_text.specs.declared.verbs.Verb.TheVariants.{Fault, Flush, Open, Close, TryClose, Snapshot, TrySnapshot}

-- all verbs
abbrev pub verbs : List Verb
verbs =
    Run ∷ Step ∷ Want ∷ TryWant ∷ WantWrite ∷ Drop ∷ DropWrite ∷ Start ∷ TryStart ∷ End ∷ Callback ∷ Change ∷ TryChange ∷ Remount ∷ Freeze ∷
    Thaw ∷ Create ∷ Remove ∷ Grow ∷ Move ∷ Fault ∷ Flush ∷ Open ∷ Close ∷ TryClose ∷ Snapshot ∷ TrySnapshot ∷ []

-- the word that names a verb, and how many words its line has, the task and the verb among them: one of two counts
pub record Row : Type 0 where
  pub name : List ℕ
  pub fewest : ℕ
  pub most : ℕ

abbrev pub row : Verb → Row
row Run = record { name = codes "run"; fewest = 2; most = 4 }
row Step = record { name = codes "step"; fewest = 2; most = 3 }
row Want = record { name = codes "want"; fewest = 4; most = 4 }
row TryWant = record { name = codes "trywant"; fewest = 4; most = 4 }
row WantWrite = record { name = codes "wantwrite"; fewest = 4; most = 4 }
row Drop = record { name = codes "drop"; fewest = 4; most = 4 }
row DropWrite = record { name = codes "dropwrite"; fewest = 4; most = 4 }
row Start = record { name = codes "start"; fewest = 4; most = 4 }
row TryStart = record { name = codes "trystart"; fewest = 4; most = 4 }
row End = record { name = codes "end"; fewest = 4; most = 4 }
row Callback = record { name = codes "callback"; fewest = 3; most = 3 }
row Change = record { name = codes "change"; fewest = 4; most = 4 }
row TryChange = record { name = codes "trychange"; fewest = 4; most = 4 }
row Remount = record { name = codes "remount"; fewest = 3; most = 3 }
row Freeze = record { name = codes "freeze"; fewest = 2; most = 3 }
row Thaw = record { name = codes "thaw"; fewest = 2; most = 3 }
row Create = record { name = codes "create"; fewest = 4; most = 4 }
row Remove = record { name = codes "remove"; fewest = 3; most = 3 }
row Grow = record { name = codes "grow"; fewest = 4; most = 4 }
row Move = record { name = codes "move"; fewest = 4; most = 4 }
row Fault = record { name = codes "fault"; fewest = 3; most = 3 }
row Flush = record { name = codes "flush"; fewest = 3; most = 3 }
row Open = record { name = codes "open"; fewest = 3; most = 3 }
row Close = record { name = codes "close"; fewest = 4; most = 4 }
row TryClose = record { name = codes "tryclose"; fewest = 4; most = 4 }
row Snapshot = record { name = codes "snapshot"; fewest = 2; most = 2 }
row TrySnapshot = record { name = codes "trysnapshot"; fewest = 2; most = 2 }

-- the word that names a verb
abbrev pub verb_name : Verb → List ℕ
verb_name verb = (row verb).name

-- the verb that a word names: each has a name of its own
unfoldable pub verb_of : List ℕ → Option Verb
verb_of word = find (λ verb. bytes_eq word (verb_name verb)) verbs

-- whether the operation of a verb waits, where it may: all but those that only try
abbrev pub waits : Verb → Bool
waits TryWant = false
waits TryStart = false
waits TryChange = false
waits TryClose = false
waits TrySnapshot = false
waits _ = true

-- whether a line with this verb may have so many words
abbrev pub takes : Verb → ℕ → Bool
takes verb words = words == (row verb).fewest || words == (row verb).most
