use Rattle.log_core.proofs.OpeningRegister.{kept_opening}
use Rattle.log_core.proofs.opening.opening_tables.Goals as goal

pub returns-clause-kept : goal.returns-clause-kept
returns-clause-kept c =
    kept_opening c.args.scheme.now _
    (record {
      records = c.new.ensures;
      allotments = c.in_ok-opening_register.ensures.allotments;
      book = c.in_ok-opening_register.ensures.book;
      under_way = c.in_ok-opening_register.ensures.under_way;
      orders = c.in_ok-opening_register.ensures.orders;
      transfers = c.new-2.ensures.empty;
      checked = c.new-3.ensures.empty;
    })
