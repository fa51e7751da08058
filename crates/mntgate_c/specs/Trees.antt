-- What the numbers of a record tell C of a node.
use Rattle.std.specs.Prelude.{None, Option, Some, if◌then◌else◌}
use Rattle.access_model.specs.declared.actions.NodeInfo.{NodeInfo}
use Rattle.mntgate_c.specs.{Operations.kind_of, declared.trees.NodeRecord.NodeRecord}

abbrev pub node_told : NodeRecord → Option NodeInfo
node_told r =
    if r.there then Some (record { kind = kind_of r.is_dir; parent = r.parent; size = r.size; dirty = r.dirty; removed = r.removed })
    else None
