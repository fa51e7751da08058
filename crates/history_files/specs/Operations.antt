-- The operations that a recorded call stands for: lines of a race.
use Rattle.std.specs.Prelude.{ℕ, zero, suc, ◌-◌, nat_eq, Bool, true, false, if◌then◌else◌, List, [], ◌++◌, codes, bytes_eq, length, take, slice_index_or, Option, Some}
use Rattle.schedule_lines.specs.Words.{first_word, after_word, word_count}
use Rattle.schedule_text.specs.{Verbs.{verb_of}, declared.verbs.Verb.{Verb, TheVariants.{Want, TryWant, WantWrite, Drop, DropWrite, Start, TryStart, End, Close, TryClose}}}
use Rattle.history_files.specs.declared.operations.Behind.{Behind, TheVariants.{Nothing, Command, First}}

-- whether the second argument of a command is a processor
abbrev pub has_processor : Option Verb → Bool
has_processor (Some Want) = true
has_processor (Some TryWant) = true
has_processor (Some WantWrite) = true
has_processor (Some Drop) = true
has_processor (Some DropWrite) = true
has_processor (Some Start) = true
has_processor (Some TryStart) = true
has_processor (Some End) = true
has_processor (Some Close) = true
has_processor (Some TryClose) = true
has_processor verb = false

-- what a word stands behind, once this one is passed
abbrev pub behind_word : Behind → List ℕ → Behind
behind_word Nothing word = if has_processor (verb_of word) then Command else Nothing
behind_word Command word = First
behind_word First word = Nothing

-- whether an operation ends with a word: the word ends with `;`, which is no part of the operation
unfoldable pub ends_operation : List ℕ → Bool
ends_operation word = nat_eq (slice_index_or word (length word - 1) 0) 59

unfoldable pub without_end : List ℕ → List ℕ
without_end word = if ends_operation word then take (length word - 1) word else word

-- whether a word is `*` in the place of a processor
abbrev pub is_unknown : Behind → List ℕ → Bool
is_unknown First word = bytes_eq word (codes "*")
is_unknown behind word = false

-- a word as a race has it: 0 is the processor that isn't known
abbrev pub shown_word : Behind → List ℕ → List ℕ
shown_word behind word = if is_unknown behind word then codes "0" else word

-- what stands behind a word: the next operation has a line of its own, on the same task
abbrev pub next_line : List ℕ → Bool → List ℕ
next_line task true = codes "\n" ++ task
next_line task false = []

-- a word of a line on a task, as a race has it, with what stands before and behind it
abbrev pub word_text : List ℕ → Behind → List ℕ → List ℕ
word_text task behind word = codes " " ++ (shown_word behind (without_end word) ++ next_line task (ends_operation word))

-- what the next word stands behind
abbrev pub behind_next : Behind → List ℕ → Behind
behind_next behind word = if ends_operation word then Nothing else behind_word behind word

-- so many words
unfoldable pub shown_words : List ℕ → ℕ → Behind → List ℕ → List ℕ
shown_words task zero behind rest = []
shown_words task (suc more) behind rest =
    word_text task behind (first_word rest) ++ shown_words task more (behind_next behind (first_word rest)) (after_word rest)

-- the lines of the operations of a call that begins by this line
unfoldable pub operation_lines : List ℕ → List ℕ
operation_lines line = first_word line ++ shown_words (first_word line) (word_count line - 1) Nothing (after_word line) ++ codes "\n"
