-- A server's words, taken apart.
use Rattle.std.specs.Prelude.{List}
use Rattle.sim_base.specs.declared.message.Job.{Job as JobOf}
use Rattle.stations.specs.declared.saved.Shape.{Shape}
use Rattle.stations.specs.declared.saved.Shape.TheVariants as shape
use Rattle.snapshot_lines.specs.declared.read_words.ServerNumbers.{ServerNumbers}

-- a server's shape, by the numbers before its waiting line, and the line
abbrev pub server_with : ServerNumbers → List JobOf → Shape
server_with n line = shape.Server n.servers n.room n.lo n.hi n.busy n.done n.lost line
