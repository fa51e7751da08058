-- A taking or a return of write access that has begun stands at its first step.
use Rattle.call_ends.proofs.Prelude.{Accesses, Bool, Op, Phase, Some, Writes, arith, refl, subst, sym, ℕ, ◌≡◌}
use Rattle.std.proofs.Common.{List, [], ◌∷◌}
use Rattle.composite_ops.specs.declared.write_access.phases.WritePhase.{TheVariants.{Drops, Ends, GivesBack, Takes, Wants}, WritePhase}
use Rattle.gate_steps.specs.{Seating.DealtNumbers, call_events.{GhostAgrees.GhostAgrees, Turns.{StateAgrees, state_at}}}
use Rattle.gate_world.specs.{Beginnings.first_phase, declared.{config.Config.Config, operations.Op.TheVariants.WantWrite}}
use Rattle.percpu_rwsem.specs.declared.readers.{DownRead.DownRead, DownReadStep.TheVariants.EntersSection}
use Rattle.call_ends.specs.Paths.{taking_at}

-- where one begins, and by which operation
abbrev pub IsFirstWrite : Op → WritePhase → Type 0
IsFirstWrite op (Takes mount read) = (op ≡ WantWrite mount read.cpu) × (Takes mount read ≡ taking_at mount read.cpu read.task EntersSection)
IsFirstWrite op (Drops mount cpu) = Unit {0}
IsFirstWrite op phase = ⊥

abbrev IsFirst : Op → Phase → Type 0
IsFirst op (Writes phase) = IsFirstWrite op phase
IsFirst op phase = Unit {0}

is_first : (c : Config) (n : ℕ) (op : Op) → IsFirst op (first_phase c n op)
is_first c n op = grind arith

begun_items : (number : ℕ) (c : Config) (op : Op) (phase : Phase) (accesses : Accesses) (flags : List Bool) (items : DealtNumbers) →
    GhostAgrees number c (Some op) (state_at (Some phase) accesses) flags items → IsFirst op phase
begun_items number c op phase accesses flags [] ghost_agrees = absurd ghost_agrees
begun_items number c op phase accesses flags (x ∷ xs) ghost_agrees = subst (IsFirst op) (sym ghost_agrees.may.1) (is_first c x.number op)

pub write_begun : {c : Config} {op : Op} {phase : WritePhase} {accesses : Accesses} {items : DealtNumbers} →
    StateAgrees c (Some op) (Some (Writes phase)) accesses items → IsFirstWrite op phase
write_begun {c} {op} {phase} {accesses} {items} agrees =
    begun_items agrees.number c op (Writes phase) accesses agrees.flags items agrees.ghost_agrees

-- nothing else begins
pub none_else : (op : Op) (phase : WritePhase) → IsFirstWrite op phase → ((mount : ℕ) (read : DownRead) → phase ≡ Takes mount read → ⊥) →
    ((mount cpu : ℕ) → phase ≡ Drops mount cpu → ⊥) → ⊥
none_else op (Takes mount read) first not_takes not_drops = not_takes mount read refl
none_else op (Drops mount cpu) first not_takes not_drops = not_drops mount cpu refl
none_else op (Wants want) first not_takes not_drops = first
none_else op (GivesBack mount cpu refusal) first not_takes not_drops = first
none_else op (Ends cpu) first not_takes not_drops = first
