-- How a pass or a helm is matched to its desk.
use Rattle.atomic_table.specs.Seated.{TableId}
use Rattle.decision_desk.specs.declared.desk.Desk.{Desk}

-- the identity of a desk: that of its table
abbrev pub desk_id : Desk → TableId
desk_id desk = desk.table.shared.table_id
