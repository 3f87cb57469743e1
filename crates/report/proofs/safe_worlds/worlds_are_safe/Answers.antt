use Rattle.report.proofs.safe_worlds.worlds_are_safe.Goals as goal

pub returns-clause-live : goal.returns-clause-live
returns-clause-live c = λ scheme events. record {
  agree = c.nodes_agree.ensures.live scheme events;
  one_place = c.units_stand_in_one_place.ensures.live scheme events;
  spent_once = c.units_stand_in_one_place.ensures.spent_once scheme events;
  holder_owns = c.holders_own.ensures.live scheme events;
  eligibility = c.deliveries_are_welcome.ensures.eligibility scheme events;
}

pub returns-clause-committed : goal.returns-clause-committed
returns-clause-committed c = λ scheme events. record {
  agree = c.nodes_agree.ensures.committed scheme events;
  one_place = c.units_stand_in_one_place.ensures.committed scheme events;
  spent_once = c.units_stand_in_one_place.ensures.spent_once_committed scheme events;
  holder_owns = c.holders_own.ensures.committed scheme events;
  eligibility = c.deliveries_are_welcome.ensures.eligibility_committed scheme events;
}
