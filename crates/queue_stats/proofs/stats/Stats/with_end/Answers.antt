use Rattle.queue_stats.proofs.CommonLogs.{lost-le, done-le, later-max, earlier-max, with_present-is}
use Rattle.queue_stats.proofs.stats.Stats.with_end.Goals as goal

pub overflow_sub-in_system : goal.overflow_sub-in_system
overflow_sub-in_system c = lost-le c.args.self c.args.from c.args.until c.requires.common

pub overflow_sub-in_system-2 : goal.overflow_sub-in_system-2
overflow_sub-in_system-2 c = done-le c.args.self c.args.from c.args.until c.requires.common

pub present_until-requires-clause-later_max : goal.present_until-requires-clause-later_max
present_until-requires-clause-later_max c = later-max c.args.self c.args.from c.args.until c.requires.common

pub present_until-requires-clause-earlier_max : goal.present_until-requires-clause-earlier_max
present_until-requires-clause-earlier_max c = earlier-max c.args.self c.args.from c.args.until c.requires.common

pub returns : goal.returns
returns c = record {
  value = λ common. with_present-is c.args.self c.args.from c.args.until common c.present_until.result
      c.present_until.ensures.later c.present_until.ensures.earlier;
}
