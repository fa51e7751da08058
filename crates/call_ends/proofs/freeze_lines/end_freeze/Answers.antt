-- the release goes on from the store
use Rattle.call_ends.proofs.Prelude.{ap, led_on, still_stands, ◌∙◌}
use Rattle.cpu_words.specs.declared.{events.Touch.TheVariants.Store, names.WordName.TheVariants.Holders as HoldersWord}
use Rattle.freeze_levels.specs.Holders.{word_of}
use Rattle.call_ends.proofs.freeze_lines.end_freeze.Goals as goal

pub find-stored-requires-clause-known : goal.find-stored-requires-clause-known
find-stored-requires-clause-known c =
    ap (λ n. (HoldersWord, Store n)) (c.pack-word.ensures.word ∙ ap (λ h. word_of h) c.with-holders.ensures)

pub find-freed-requires-clause-stands : goal.find-freed-requires-clause-stands
find-freed-requires-clause-stands c = still_stands c.find-stored.ensures.led c.requires

pub returns : goal.returns
returns c = led_on c.find-stored.ensures.led c.find-freed.ensures.led
