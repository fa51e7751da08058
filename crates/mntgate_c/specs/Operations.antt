-- What the numbers of a record tell of an operation.
use Rattle.std.specs.Prelude.{◌==◌, Bool, true, false, if◌then◌else◌, Option, Some, None}
use Rattle.access_model.specs.declared.actions.Kind.{Kind, TheVariants.{File, Dir}}
use Rattle.gate_world.specs.declared.operations.Op.{Op}
use Rattle.gate_world.specs.declared.operations.Op.TheVariants.{Want, DropMount, ChangeMount, RemountSb, Start, End, WantWrite, DropWrite, Callback, Freeze, Thaw, Create, Remove, Grow, MoveTo, Fault, Flush, Open, Close, Snapshot}
use Rattle.mntgate_c.specs.{Codes.{holder_of}, declared.operations.OpRecord.{OpRecord}}

-- what is created
abbrev pub kind_of : Bool → Kind
kind_of true = Dir
kind_of false = File

-- the operation, where there is one of that kind
abbrev pub op_at : OpRecord → Option Op
op_at r =
    if r.kind == 0 then Some (Want r.number r.other r.wait) else if r.kind == 1 then Some (DropMount r.number r.other)
    else if r.kind == 2 then Some (ChangeMount r.number r.choice r.wait) else if r.kind == 3 then Some (RemountSb r.choice)
    else if r.kind == 4 then Some (Start r.number r.other r.wait) else if r.kind == 5 then Some (End r.number r.other)
    else if r.kind == 6 then Some (WantWrite r.number r.other) else if r.kind == 7 then Some (DropWrite r.number r.other)
    else if r.kind == 8 then Some (Callback r.number) else if r.kind == 9 then Some (Freeze (holder_of r.choice))
    else if r.kind == 10 then Some (Thaw (holder_of r.choice)) else if r.kind == 11 then Some (Create r.number (kind_of r.choice))
    else if r.kind == 12 then Some (Remove r.number) else if r.kind == 13 then Some (Grow r.number r.blocks)
    else if r.kind == 14 then Some (MoveTo r.number r.other) else if r.kind == 15 then Some (Fault r.number)
    else if r.kind == 16 then Some (Flush r.number) else if r.kind == 17 then Some (Open r.number)
    else if r.kind == 18 then Some (Close r.number r.other r.wait) else if r.kind == 19 then Some (Snapshot r.wait) else None
