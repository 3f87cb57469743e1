use Rattle.std.proofs.Common.{inr}
use Rattle.one_node.proofs.Possible.{clean_up_possible}
use Rattle.one_node.proofs.operator.Client.order_clean_up.Goals as goal

pub returns : goal.returns
returns g c =
    let client = c.args.self.now in
    let asked = c.ask-told.ensures in
    let moment = c.now-moment.result in
    inr (record {
      moment = moment;
      told = c.ask-told.result;
      log = c.requires.log;
      tells_it = c.now-moment.ensures;
      possible = clean_up_possible client.scheme.now client.node moment c.requires.log c.requires.member;
      asked = record { heard = asked.heard; grows = asked.grows; adds = asked.adds; notes = asked.notes };
    })
