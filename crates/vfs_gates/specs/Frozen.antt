-- Who holds a freeze by a task's own list, and which lists leave none.
use Rattle.std.specs.Prelude.{List, [], false, true, ℕ, ◌∷◌, ◌≡◌, ◌⊎◌}
use Rattle.access_model.specs.{Holders.{held_by, nobody, with_holder}, declared.actions.Action.{Action, TheVariants.{Hold, Leave, Stage}}}
use Rattle.access_model.specs.declared.actions.{Holder.Holder, Holders.Holders}
use Rattle.gate_world.specs.declared.operations.Op.{Op, TheVariants.{Snapshot, Thaw}}

-- who holds a freeze if nobody took or left one but by these actions, the newest first
abbrev pub holders_of : List Action → Holders
holders_of [] = nobody
holders_of (Hold h ∷ earlier) = with_holder h true (holders_of earlier)
holders_of (Leave h ∷ earlier) = with_holder h false (holders_of earlier)
holders_of (a ∷ earlier) = holders_of earlier

-- the stage if none was stored but by these actions
abbrev pub stage_of : List Action → ℕ
stage_of [] = 0
stage_of (Stage n ∷ earlier) = n
stage_of (a ∷ earlier) = stage_of earlier

-- by these actions no freeze is under way, and this holder holds none
abbrev pub MayFreeze : Holder → List Action → Type 0
MayFreeze h actions = ((stage_of actions ≡ 0) ⊎ (stage_of actions ≡ 4)) × (held_by (holders_of actions) h ≡ false)

-- none of these actions is that this holder leaves
abbrev pub NeverThaws : Holder → List Action → Type 0
NeverThaws h [] = Unit {0}
NeverThaws h (a ∷ earlier) = (a ≡ Leave h → ⊥) × NeverThaws h earlier

-- an action that neither stores a stage nor takes or leaves a freeze
abbrev pub IsBesideFreezes : Action → Type 0
IsBesideFreezes (Stage n) = ⊥
IsBesideFreezes (Hold h) = ⊥
IsBesideFreezes (Leave h) = ⊥
IsBesideFreezes action = Unit {0}

-- so is each of these
abbrev pub NeverFreezes : List Action → Type 0
NeverFreezes [] = Unit {0}
NeverFreezes (a ∷ earlier) = IsBesideFreezes a × NeverFreezes earlier

-- an operation that is refused as Invalid if it finds that this holder's freeze doesn't stand: any snapshot, and this holder's thaw
abbrev pub NeedsFreeze : Holder → Op → Type 0
NeedsFreeze h (Snapshot wait) = Unit {0}
NeedsFreeze h (Thaw other) = other ≡ h
NeedsFreeze h op = ⊥
