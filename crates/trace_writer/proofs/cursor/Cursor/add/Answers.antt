use Rattle.trace_writer.proofs.Stepping.{view_of-add}
use Rattle.trace_writer.proofs.cursor.Cursor.add.Goals as goal

pub returns : goal.returns
returns g c = record {
  value = view_of-add c.self.inside.walks.items c.push.new.self.items c.self.inside.most c.args.walk c.args.self.now
      c.self.view_is c.in-Ok.ensures.items;
}
