-- What a handle owns.
use Rattle.std.specs.Prelude.{Bool, false, true}
use Rattle.{std_alloc.specs.Box.Ownership.box_owns, std_heap.specs.contracts.{Global.the_row as Heap, GlobalAllocator.TheImpl.ghosts}}
use Rattle.vfs_gates.specs.TaskStates.{SeatedTask}
use Rattle.mntgate_c.specs.contracts.members.Member.{the_row}
use base.Fml.{Fml, ftrue}
use denote.RawPtr.{Ptr}

-- the heap: there is one
abbrev pub heap : Heap.Denot
heap = record { memory = record { seal = tt } }

-- a task in this state with its gates, and the right to free their block; or nothing
abbrev pub holds : Bool → Ptr → SeatedTask → Fml
holds true p s = box_owns (ghosts.dealloc_token heap) the_row p s
holds false p s = ftrue
