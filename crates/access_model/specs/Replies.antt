-- What comes after a step, with other phases.
use Rattle.access_model.specs.declared.replies.Next.{Next, TheVariants.{Go, Wait, Done}}

-- the same, with what a function gives in the place of its phase
abbrev pub map_next : {A B : Type 0} → (A → B) → Next A → Next B
map_next to (Go phase) = Go (to phase)
map_next to (Wait phase) = Wait (to phase)
map_next to (Done answer) = Done answer
