-- What is recorded of a call's answer.
use Rattle.std.specs.Prelude.{ℕ, nat_lt, nat_eq, ◌&&◌, ◌||◌, Bool, true, false, if◌then◌else◌, List, [], ◌∷◌, codes, bytes_eq, Option, Some, None}
use Rattle.std.specs.{List.{find}, Option.{option_map}}
use Rattle.access_model.specs.{Errors.{number_of as errno_of, name_of}, declared.{errors.GateError.{GateError, TheVariants.{NoEntry, Again, NoMemory, Busy, NotDir, IsDir, Invalid, TooMany, NoSpace, ReadOnly, Order, Hook}}, replies.Reply.TheVariants.{Node, Ran}}}
use Rattle.histories.specs.declared.markers.Recorded.{Recorded, TheVariants.{Unknown, Done, Replied, Refused, Errno, RefusedFor}}
use Rattle.schedule_lines.specs.{Numbers.{code_of, number_of}, Words.{first_word, after_word}}

-- whether a word is the first of an answer
abbrev pub begins_answer : List ℕ → Bool
begins_answer word = bytes_eq word (codes "ok") || (bytes_eq word (codes "refused") || bytes_eq word (codes "?"))

-- all refusals that have a name
abbrev pub reasons : List GateError
reasons = NoEntry ∷ Again ∷ NoMemory ∷ Busy ∷ NotDir ∷ IsDir ∷ Invalid ∷ TooMany ∷ NoSpace ∷ ReadOnly ∷ Order ∷ []

-- whether a refusal has this errno and this name
abbrev pub is_reason : ℕ → List ℕ → GateError → Bool
is_reason errno name reason = nat_eq (errno_of reason) errno && bytes_eq name (name_of reason)

-- the refusal of an errno and a name
abbrev pub reason_of : Option ℕ → List ℕ → Option Recorded
reason_of None name = None
reason_of (Some errno) name = option_map RefusedFor (find (is_reason errno name) reasons)

-- that a hook failed with a code
abbrev pub hook_refused : Option ℕ → Option Recorded
hook_refused code = option_map (λ c. RefusedFor (Hook c)) code

-- an errno that stands alone, or else before a name
abbrev pub errno_told : Option ℕ → List ℕ → Option Recorded
errno_told (Some errno) words = Some (Errno errno)
errno_told None words = reason_of (code_of (first_word words)) (after_word words)

-- what is known by the words behind `refused`
unfoldable pub refused_of : List ℕ → Option Recorded
refused_of words = if bytes_eq (first_word words) (codes "hook") then hook_refused (code_of (after_word words)) else errno_told (code_of words) words

-- the number of a node, which is a byte
abbrev pub node_told : Option ℕ → Option Recorded
node_told None = None
node_told (Some node) = if nat_lt node 256 then Some (Replied (Node node)) else None

-- what is known by the words behind `ok`
unfoldable pub replied_of : List ℕ → Option Recorded
replied_of words =
    if bytes_eq words (codes "ran") then Some (Replied (Ran true)) else
    if bytes_eq words (codes "none") then Some (Replied (Ran false)) else
    if bytes_eq (first_word words) (codes "node") then node_told (number_of (after_word words)) else
    None

-- what is known of an answer that is told by these words; none if no answer is
unfoldable pub recorded_of : List ℕ → Option Recorded
recorded_of words =
    if bytes_eq words (codes "?") then Some Unknown else
    if bytes_eq words (codes "ok") then Some Done else
    if bytes_eq words (codes "refused") then Some Refused else
    if bytes_eq (first_word words) (codes "ok") then replied_of (after_word words) else
    if bytes_eq (first_word words) (codes "refused") then refused_of (after_word words) else
    None
