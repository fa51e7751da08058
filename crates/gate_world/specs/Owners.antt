-- What the owner of `umount` knows: each word that only an owner changes is as it last found or left it.
use Rattle.std.specs.Prelude.{◌≡◌, ℕ, ◌==◌, ◌&&◌, Bool, true, false, if◌then◌else◌, Option, Some, None, List, [], ◌∷◌}
use Rattle.cpu_words.specs.Words.{Words, read}
use Rattle.cpu_words.specs.declared.{events.Event.Event, names.WordName.{WordName, TheVariants.{Umount, Stage, Holders, SbFlags, Remount, MountFlags}}}
use Rattle.gate_world.specs.{traces.Found.is_cas, declared.views.Traced.Traced}

-- the words that only the owner of `umount` changes: the stage, the holders, the superblock's flags, `remount`, each mount's flags
abbrev pub is_owned : WordName → Bool
is_owned Stage = true
is_owned Holders = true
is_owned SbFlags = true
is_owned Remount = true
is_owned (MountFlags m) = true
is_owned word = false

-- they are the same, and one of these words
abbrev pub is_owned_word : WordName → WordName → Bool
is_owned_word Stage Stage = true
is_owned_word Holders Holders = true
is_owned_word SbFlags SbFlags = true
is_owned_word Remount Remount = true
is_owned_word (MountFlags m) (MountFlags n) = m == n
is_owned_word word other = false

-- a word is `umount`
abbrev pub is_lock : WordName → Bool
is_lock Umount = true
is_lock word = false

-- the step takes `umount`, which it found free
abbrev pub takes_lock : Event → Bool
takes_lock e = is_lock e.word && (is_cas e.touch && (e.found == 0))

-- what the newest step on this word found or left in it, since `umount` was taken last
abbrev pub last_left : WordName → List Traced → Option ℕ
last_left word [] = None
last_left word (e ∷ earlier) =
    if takes_lock e.event then None else
    (if is_owned_word word e.event.word then Some e.event.left else last_left word earlier)

-- each such word is still as the newest step on it found or left it
abbrev pub KnowsWords : Words → List Traced → Type 0
KnowsWords words trace = (word : WordName) (value : ℕ) → last_left word trace ≡ Some value → read words word ≡ value
