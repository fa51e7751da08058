-- A list of words that is moved by steps.
use Rattle.std.specs.Prelude.{List, None, Option, Some, slice_set, ℕ}
use Rattle.cpu_words.specs.{Names.place, declared.events.Event.Event}

-- these words, each at its place, after a step, if there is one: it has left its own as it says
abbrev pub words_after : Option Event → List ℕ → List ℕ
words_after None words = words
words_after (Some event) words = slice_set words (place event.word) event.left
