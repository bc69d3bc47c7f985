use Rattle.std.proofs.Common.{refl, subst}
use Rattle.linux_view.specs.Ends.{IsEnd}
use Rattle.linux_view.specs.declared.statuses.TheConstants.{USAGE}
use Rattle.orders_view.specs.Ends.{OrdersBy}
use Rattle.orders_view.proofs.program.run_orders.Goals as goal

pub returns-in-Some : goal.returns-in-Some
returns-in-Some g c =
    subst
    (λ asked. OrdersBy asked (g.S.Source.seen c.args.source.now)
    (g.S.Source.seen c.run_asked.new.source) (g.K.Sink.seen c.args.sink.now)
    (g.K.Sink.seen c.run_asked.new.sink) c.run_asked.result)
    c.in-Some.ensures c.run_asked.ensures

pub returns-in-None : goal.returns-in-None
returns-in-None g c =
    subst
    (λ asked. OrdersBy asked (g.S.Source.seen c.args.source.now)
    (g.S.Source.seen c.args.source.now) (g.K.Sink.seen c.args.sink.now)
    (g.K.Sink.seen c.write_text.new.sink) c.write_text.result)
    c.in-None.ensures
    (record {
      source = refl;
      ends =
          subst
          (λ text. IsEnd text USAGE (g.K.Sink.seen c.args.sink.now)
          (g.K.Sink.seen c.write_text.new.sink) c.write_text.result)
          c.usage_text.ensures c.write_text.ensures;
    })
