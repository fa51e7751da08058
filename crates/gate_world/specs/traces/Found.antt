-- What the steps of a trace have found.
use Rattle.std.specs.Prelude.{Bool, List, None, Option, Some, [], false, if◌then◌else◌, is_some, not, suc, sum_by, true, zero, ℕ, ◌%◌, ◌&&◌, ◌==◌}
use Rattle.std.specs.Prelude.{◌||◌, ◌∷◌, ◌≡◌, ◌≢◌, ◌⊎◌}
use Rattle.access_model.specs.{Holders.{held_by, is_unheld, with_holder}, declared.actions.{Action.{Action, TheVariants.Clean}, Holder.Holder}}
use Rattle.cpu_words.specs.{Hooks.HookAnswer, Touches.wrap_add, declared.events.{Event.Event, Touch.TheVariants.{Add, And, Cas, Load, Store, Sub}}}
use Rattle.cpu_words.specs.declared.{events.Touch.{TheVariants.Swap, Touch}, names.WordName.TheVariants.{Block, Holders, LevelCount, MountCount}}
use Rattle.cpu_words.specs.declared.names.WordName.{TheVariants.{MountFlags, Node, Remount, Removed, SbFlags, Section, Stage, Sync, Umount}, WordName}
use Rattle.{freeze_levels.specs.Holders.holders_in, mount_counts.specs.Phases.has_flag}
use Rattle.percpu_rwsem.specs.{SyncWords.{is_passed, on_claim, unpack}, declared.sync_word.SyncWord.SyncWord}
use Rattle.gate_world.specs.declared.views.Traced.{Traced}

-- the touch is a load; a compare-exchange
abbrev pub is_load : Touch → Bool
is_load Load = true
is_load touch = false

-- the touch is a compare-exchange
abbrev pub is_cas : Touch → Bool
is_cas (Cas expect put) = true
is_cas touch = false

-- the load answers the read-only question for this mount with yes
abbrev pub says_read_only : ℕ → WordName → ℕ → Bool
says_read_only m (MountFlags n) found = (n == m) && has_flag found 1
says_read_only m Remount found = not (found == 0)
says_read_only m SbFlags found = not (found == 0)
says_read_only m word found = false

-- the load found HOLD at this mount
abbrev pub says_hold : ℕ → WordName → ℕ → Bool
says_hold m (MountFlags n) found = (n == m) && has_flag found 2
says_hold m word found = false

-- `umount` was found taken
abbrev pub says_taken : WordName → ℕ → Bool
says_taken Umount found = not (found == 0)
says_taken word found = false

-- some step of the trace passes this test
abbrev pub some_event : (Event → Bool) → List Traced → Bool
some_event test [] = false
some_event test (e ∷ earlier) = test e.event || some_event test earlier

-- some load answered the read-only question for this mount with yes
abbrev pub found_read_only : ℕ → List Traced → Bool
found_read_only m trace = some_event (λ e. is_load e.touch && says_read_only m e.word e.found) trace

-- some load found HOLD at this mount
abbrev pub found_hold : ℕ → List Traced → Bool
found_hold m trace = some_event (λ e. is_load e.touch && says_hold m e.word e.found) trace

-- some compare-exchange found `umount` taken
abbrev pub found_taken : List Traced → Bool
found_taken trace = some_event (λ e. is_cas e.touch && says_taken e.word e.found) trace

-- a load of a count of this mount, as its processor and what it found
abbrev pub count_found : ℕ → WordName → ℕ → List (ℕ × ℕ) → List (ℕ × ℕ)
count_found m (MountCount n p) found earlier = if n == m then (p, found) ∷ earlier else earlier
count_found m word found earlier = earlier

-- the loads of this mount's counts, the newest first
abbrev pub counts_loaded : ℕ → List Traced → List (ℕ × ℕ)
counts_loaded m [] = []
counts_loaded m (e ∷ earlier) = if is_load e.event.touch then count_found m e.event.word e.event.found
    (counts_loaded m earlier) else counts_loaded m earlier

-- the step is a load that found HOLD at this mount
abbrev pub finds_hold : ℕ → Event → Bool
finds_hold m e = is_load e.touch && says_hold m e.word e.found

-- the step is a compare-exchange that found `umount` taken
abbrev pub finds_taken : Event → Bool
finds_taken e = is_cas e.touch && says_taken e.word e.found

-- each step of the trace passes this test
abbrev pub each_event : (Event → Bool) → List Traced → Bool
each_event test [] = true
each_event test (e ∷ earlier) = test e.event && each_event test earlier

-- there is a step, and each but the oldest passes this test
abbrev pub each_but_first : (Event → Bool) → List Traced → Bool
each_but_first test [] = false
each_but_first test (e ∷ []) = true
each_but_first test (e ∷ (d ∷ earlier)) = test e.event && each_but_first test (d ∷ earlier)

-- the newest step passes this test, and so does each before it but the oldest, which is another
abbrev pub looks_again : (Event → Bool) → List Traced → Bool
looks_again test [] = false
looks_again test (e ∷ earlier) = test e.event && each_but_first test earlier

-- these are one load of each processor's count, from 0 up, and the newest first
abbrev pub IsEachCount : ℕ → List (ℕ × ℕ) → Type 0
IsEachCount zero [] = Unit {0}
IsEachCount zero (x ∷ earlier) = ⊥
IsEachCount (suc n) [] = ⊥
IsEachCount (suc n) (x ∷ earlier) = (x.0 ≡ n) × IsEachCount n earlier

-- the wrapping sum of what was loaded
abbrev pub sum_loaded : List (ℕ × ℕ) → ℕ
sum_loaded loads = sum_by (λ (x : ℕ × ℕ). x.1) loads % 18446744073709551616

-- the load found the superblock's flag set
abbrev pub says_sealed : WordName → ℕ → Bool
says_sealed SbFlags found = not (found == 0)
says_sealed word found = false

-- the load found a stage other than 0
abbrev pub says_frozen : WordName → ℕ → Bool
says_frozen Stage found = not (found == 0)
says_frozen word found = false

-- some load found the superblock's flag set
abbrev pub found_sealed : List Traced → Bool
found_sealed trace = some_event (λ e. is_load e.touch && says_sealed e.word e.found) trace

-- some load found a stage other than 0
abbrev pub found_frozen : List Traced → Bool
found_frozen trace = some_event (λ e. is_load e.touch && says_frozen e.word e.found) trace

-- the load found another stage than SB_FREEZE_COMPLETE, which is 4
abbrev pub says_incomplete : WordName → ℕ → Bool
says_incomplete Stage found = not (found == 4)
says_incomplete word found = false

-- some load found one
abbrev pub found_incomplete : List Traced → Bool
found_incomplete trace = some_event (λ e. is_load e.touch && says_incomplete e.word e.found) trace

-- the load found that everything is frozen, which is stage 4
abbrev pub says_complete : WordName → ℕ → Bool
says_complete Stage found = found == 4
says_complete word found = false

-- some load found that
abbrev pub found_complete : List Traced → Bool
found_complete trace = some_event (λ e. is_load e.touch && says_complete e.word e.found) trace

-- the load found a freeze under way, which is stage 1 to 3
abbrev pub says_moving : WordName → ℕ → Bool
says_moving Stage found = not (found == 0) && not (found == 4)
says_moving word found = false

-- some load found one
abbrev pub found_moving : List Traced → Bool
found_moving trace = some_event (λ e. is_load e.touch && says_moving e.word e.found) trace

-- the load found that this one holds a freeze
abbrev pub says_held : Holder → WordName → ℕ → Bool
says_held holder Holders found = held_by (holders_in found) holder
says_held holder word found = false

-- some load found that
abbrev pub found_held : Holder → List Traced → Bool
found_held holder trace = some_event (λ e. is_load e.touch && says_held holder e.word e.found) trace

-- the load found that this one holds none
abbrev pub says_unheld : Holder → WordName → ℕ → Bool
says_unheld holder Holders found = not (held_by (holders_in found) holder)
says_unheld holder word found = false

-- some load found that
abbrev pub found_unheld : Holder → List Traced → Bool
found_unheld holder trace = some_event (λ e. is_load e.touch && says_unheld holder e.word e.found) trace

-- the load found that another than this one holds a freeze
abbrev pub says_shared : Holder → WordName → ℕ → Bool
says_shared holder Holders found = not (is_unheld (with_holder holder false (holders_in found)))
says_shared holder word found = false

-- some load found that
abbrev pub found_shared : Holder → List Traced → Bool
found_shared holder trace = some_event (λ e. is_load e.touch && says_shared holder e.word e.found) trace

-- the step stores this stage
abbrev pub stores_stage : ℕ → WordName → Touch → Bool
stores_stage n Stage (Store value) = value == n
stores_stage n word touch = false

-- some step did
abbrev pub stored_stage : ℕ → List Traced → Bool
stored_stage n trace = some_event (λ e. stores_stage n e.word e.touch) trace

-- the level of which the step clears the `block`, or else this one
abbrev pub opened_by : WordName → Touch → ℕ → ℕ
opened_by (Block i) (Store value) earlier = if value == 0 then i else earlier
opened_by word touch earlier = earlier

-- the level whose `block` was cleared last; 0 where none was
abbrev pub level_opened : List Traced → ℕ
level_opened [] = 0
level_opened (e ∷ earlier) = opened_by e.event.word e.event.touch (level_opened earlier)

-- the level that a freeze gave up, whose `block` it cleared before its store of stage 0; 0 where it gave up none
abbrev pub gave_up : List Traced → ℕ
gave_up [] = 0
gave_up (e ∷ earlier) = if stores_stage 0 e.event.word e.event.touch then level_opened earlier else gave_up earlier

-- they are the same, and one of the words whose clearing a hook's answer decides: `remount`, `umount`, the stage, a level's `block`
abbrev pub clears_word : WordName → WordName → Bool
clears_word Remount Remount = true
clears_word Umount Umount = true
clears_word Stage Stage = true
clears_word (Block i) (Block j) = i == j
clears_word word other = false

-- the touch is a store of 0
abbrev pub is_clearing : Touch → Bool
is_clearing (Store value) = value == 0
is_clearing touch = false

-- some step that stores 0 in this word read this answer of a hook
abbrev pub ReadAnswer : WordName → HookAnswer → List Traced → Type 0
ReadAnswer word answer [] = ⊥
ReadAnswer word answer (e ∷ earlier) =
    ((clears_word word e.event.word ≡ true) × (is_clearing e.event.touch ≡ true) × (e.hook ≡ answer)) ⊎ ReadAnswer word answer earlier

-- the step cleared the mark of a node, on top of these actions
abbrev pub clean_found : WordName → Touch → ℕ → List Action → List Action
clean_found (Node n) (And mask) found earlier = if has_flag found 4 then Clean n ∷ earlier else earlier
clean_found word touch found earlier = earlier

-- the nodes whose marks were found set and cleared, the newest first
abbrev pub cleans : List Traced → List Action
cleans [] = []
cleans (e ∷ earlier) = clean_found e.event.word e.event.touch e.event.found (cleans earlier)

-- some step of the trace passes this test, as a statement
abbrev pub SeenIn : List Traced → (Event → Bool) → Type 0
SeenIn trace test = some_event test trace ≡ true

-- the newest step passes this test
abbrev pub newest : (Event → Bool) → List Traced → Bool
newest test [] = false
newest test (e ∷ earlier) = test e.event

-- the step is a load that found a level's `block` set
abbrev pub says_closed : ℕ → WordName → ℕ → Bool
says_closed i (Block j) found = (j == i) && not (found == 0)
says_closed i word found = false

-- some load found it set
abbrev pub finds_closed : ℕ → Event → Bool
finds_closed i e = is_load e.touch && says_closed i e.word e.found

-- of the trace
abbrev pub found_closed : ℕ → List Traced → Bool
found_closed i trace = some_event (finds_closed i) trace

-- the step takes one from a count of a level
abbrev pub takes_from : ℕ → WordName → Touch → Bool
takes_from i (LevelCount j p) (Sub n) = j == i
takes_from i word touch = false

-- the newest step is that, and the one before it found `block` set
abbrev pub backed_off : ℕ → List Traced → Bool
backed_off i [] = false
backed_off i (e ∷ earlier) = takes_from i e.event.word e.event.touch && newest (finds_closed i) earlier

-- the step turns a section word
abbrev pub turns_section : WordName → Touch → Bool
turns_section (Section u) (Add n) = true
turns_section word touch = false

-- the newest step ends a section in which a level was found closed, and its count was taken back
abbrev pub left_closed : ℕ → List Traced → Bool
left_closed i [] = false
left_closed i (e ∷ earlier) = turns_section e.event.word e.event.touch && backed_off i earlier

-- the step adds to a count of this mount
abbrev pub adds_to : ℕ → WordName → Touch → Bool
adds_to m (MountCount n p) (Add k) = n == m
adds_to m word touch = false

-- the newest step found HOLD at this mount, and so did each before it, back to the addition to its count
abbrev pub holds_since : ℕ → List Traced → Bool
holds_since m [] = false
holds_since m (e ∷ earlier) = finds_hold m e.event && (newest (λ d. adds_to m d.word d.touch) earlier || holds_since m earlier)

-- the step is a load that found a task inside a read-side section
abbrev pub says_inside : WordName → ℕ → Bool
says_inside (Section u) found = found % 2 == 1
says_inside word found = false

-- of a step
abbrev pub finds_inside : Event → Bool
finds_inside e = is_load e.touch && says_inside e.word e.found

-- a word in which no callback is queued that isn't taken
abbrev pub none_queued : Option SyncWord → Bool
none_queued None = false
none_queued (Some word) = not (is_some (on_claim word))

-- the load found no callback to take at this level
abbrev pub says_none_queued : ℕ → WordName → ℕ → Bool
says_none_queued i (Sync j) found = (j == i) && none_queued (unpack found)
says_none_queued i word found = false

-- of a step
abbrev pub finds_none_queued : ℕ → Event → Bool
finds_none_queued i e = is_load e.touch && says_none_queued i e.word e.found

-- a compare-exchange that found what it expected
abbrev pub exchanges : Touch → ℕ → Bool
exchanges (Cas expect put) found = found == expect
exchanges touch found = false

-- of a level's sync word
abbrev pub is_sync : ℕ → WordName → Bool
is_sync i (Sync j) = j == i
is_sync i word = false

-- how many transitions of a level's sync word the trace has made
abbrev pub transitions_made : ℕ → List Traced → ℕ
transitions_made i [] = 0
transitions_made i (e ∷ earlier) =
    if is_sync i e.event.word && exchanges e.event.touch e.event.found then suc (transitions_made i earlier) else transitions_made i earlier

-- a word in which a writer that found GP_IDLE is in its grace period or past it
abbrev pub is_entering : Option SyncWord → Bool
is_entering None = false
is_entering (Some word) = not (is_passed word.state)

-- the load found a level's sync word so
abbrev pub says_entering : WordName → ℕ → Bool
says_entering (Sync i) found = is_entering (unpack found)
says_entering word found = false

-- the swap found a level's `block` set
abbrev pub says_blocked : WordName → Touch → ℕ → Bool
says_blocked (Block i) (Swap value) found = not (found == 0)
says_blocked word touch found = false

-- The step is one after which a writer of a level looks again: it found a task inside a section, another writer that is entering, or the
-- level's `block` set.
abbrev pub finds_readers : Event → Bool
finds_readers e = finds_inside e || ((is_load e.touch && says_entering e.word e.found) || says_blocked e.word e.touch e.found)

-- the newest steps are one load of each of so many processors' counts of a level, from 0 up
abbrev pub IsLevelSum : ℕ → ℕ → List Traced → Type 0
IsLevelSum i zero trace = Unit {0}
IsLevelSum i (suc n) [] = ⊥
IsLevelSum i (suc n) (e ∷ earlier) = (e.event.word ≡ LevelCount i n) × (e.event.touch ≡ Load) × IsLevelSum i n earlier

-- the wrapping sum of what the newest steps found, so many of them
abbrev pub sum_of_newest : ℕ → List Traced → ℕ
sum_of_newest zero trace = 0
sum_of_newest (suc n) [] = 0
sum_of_newest (suc n) (e ∷ earlier) = wrap_add (sum_of_newest n earlier) e.event.found

-- the newest steps are loads of a level's counts, one of each processor, and their sum isn't 0
abbrev pub FoundInside : ℕ → List Traced → Type 0
FoundInside processors trace = (i : ℕ) × IsLevelSum i processors trace × (sum_of_newest processors trace ≢ 0)

-- a word is `removed`
abbrev is_removed_word : WordName → Bool
is_removed_word Removed = true
is_removed_word word = false

-- a load found a removed file that is open
abbrev pub finds_removed : Event → Bool
finds_removed e = is_load e.touch && (is_removed_word e.word && not (e.found == 0))

-- some load did
abbrev pub found_removed : List Traced → Bool
found_removed trace = some_event finds_removed trace

-- some step was on `removed`: of a close, that it counts one removed file less
abbrev pub found_dropped : List Traced → Bool
found_dropped trace = some_event (λ e. is_removed_word e.word) trace
