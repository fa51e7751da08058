-- A law of drivers, of the gates that one thread drives: what they tell of a word is its value in the state that they show. It is the core's law, of a
-- core with these words.
use Rattle.cpu_words.{proofs.Places.place_small, specs.{Names.{IsWord, place}, Words.read, declared.names.WordName.WordName}}
use Rattle.gate_core.specs.{Drivers.{listed_word, where_there}, Memory.Memory, Tells.core_tells}
use Rattle.gate_world.specs.{Configs.extents_of, Views.opening_view, Worlds.World, declared.config.Config.Config}
use Rattle.std.{proofs.{Common.{ap, arith, refl, ◌∙◌}, lemmas.Option.slice_get-get_or}, specs.Prelude.{List, Option, Some, [], slice_get, ℕ, ◌≡◌}}
use Rattle.program_replay.specs.{Driven.GatesShow, declared.gates_driver.GatesDriver.GatesDriver}

pub gates_tell : (driver : GatesDriver) (c : Config) (w : World) (name : WordName) → GatesShow driver c w → IsWord (extents_of c) name →
    listed_word driver.config driver.words.items name ≡ Some (read w.words name)
gates_tell driver c w name shows there =
    let list : List ℕ = driver.words.items in
    let long = shows.shows.long in
    let within = shows.shows.within in
    let small = place_small (extents_of c)
    (record { tasks = within.tasks; processors = within.processors; mounts = within.mounts; nodes = within.nodes }) name there in
    let core : Memory = record { config = c; words = list; seats = [] } in
    let idle : World = record { words = w.words; views = λ t. opening_view } in
    ap (λ (k : Config). listed_word k list name) shows.config
    ∙ (ap (where_there c name) (slice_get-get_or list (place name) 0 (omega (arith, long, small)))
    ∙ core_tells core c idle name (record {
      config = refl;
      within = within;
      world = record {
        words = shows.shows.listed;
        phases = λ t lt. refl;
        held = λ t lt. record { mounts = λ m lm. refl; levels = λ i one three. refl; files = λ n. refl };
      };
    }) there)
