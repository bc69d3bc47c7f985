use Rattle.std.proofs.Common.{◌≡◌, ◌-◌, ◌+◌, None, ap, sym, subst, ◌∙◌, arith, rules}
use Rattle.std.specs.Prelude.{bit_and, unwrap_or}
use Rattle.wheel_core.specs.PlainBase.{HasDistinctIds, item_of}
use Rattle.wheel_base.specs.Files.{IsKeyOf, filed_at, item_at, items_of, no_item}
use Rattle.key_lists.specs.Tables.{list_of}
use Rattle.wheel_base.proofs.Timed.{item_of_stored}
use Rattle.wheel_base.proofs.Names.{Searched, name_in, names_few, none_found, none_left, search_on, search_start, standing, standing_held, standing_stored}
use Rattle.wheel_base.proofs.store.Store.find.Goals as goal

pub loop-step-init : goal.loop-step-init
loop-step-init c = search_start c.self.inside.items c.self.inside.armed c.self.inside.buckets c.self.inside.names c.self.inside.mask c.self.inside.marks c.self.invariant c.args.id c.newest-at.result (c.len-step-end.result - 0) c.newest-at.ensures (omega (arith, names_few c.self.inside.items c.self.inside.armed c.self.inside.buckets c.self.inside.names c.self.inside.mask c.self.inside.marks c.self.invariant c.args.id, c.len-step-end.ensures))

pub returns-in_err-key : goal.returns-in_err-key
returns-in_err-key c =
    rw c.from_residual.ensures
    (subst (λ files. item_of c.args.id (items_of files.filed) ≡ None) c.self.view_is (none_found c.self.inside.items c.self.inside.armed c.self.inside.buckets c.self.inside.names c.self.inside.mask c.self.inside.marks c.self.invariant c.args.id c.loop-step.at (c.len-step-end.result - c.loop-step.step) c.loop-step.invariant c.in_err-key.was))

pub index-requires : goal.index-requires
index-requires c =
    let stands = standing c.self.inside.items c.self.inside.armed c.self.inside.buckets c.self.inside.names c.self.inside.mask c.self.inside.marks c.self.invariant c.args.id c.loop-step.at (c.len-step-end.result - c.loop-step.step) c.in_ok-key.key c.loop-step.invariant c.in_ok-key.was in
    let stored = standing_stored c.self.inside.items c.self.inside.armed c.self.inside.buckets c.self.inside.names c.self.inside.mask c.self.inside.marks c.self.invariant c.args.id c.loop-step.at (c.len-step-end.result - c.loop-step.step) c.in_ok-key.key c.loop-step.invariant.back stands in
    rw stored.0 (search rules)

pub returns-then-index-id : goal.returns-then-index-id
returns-then-index-id c =
    let stands = standing c.self.inside.items c.self.inside.armed c.self.inside.buckets c.self.inside.names c.self.inside.mask c.self.inside.marks c.self.invariant c.args.id c.loop-step.at (c.len-step-end.result - c.loop-step.step) c.in_ok-key.key c.loop-step.invariant c.in_ok-key.was in
    let stored = (standing_stored c.self.inside.items c.self.inside.armed c.self.inside.buckets c.self.inside.names c.self.inside.mask c.self.inside.marks c.self.invariant c.args.id c.loop-step.at (c.len-step-end.result - c.loop-step.step) c.in_ok-key.key c.loop-step.invariant.back stands).1 in
    let is : item_at c.self.inside.items.slots c.in_ok-key.key ≡ c.index.result.now = ap (λ slot. unwrap_or slot no_item) c.index.ensures in
    let distinct = subst (λ files. HasDistinctIds (items_of files.filed)) (sym c.self.view_is) c.requires in
    let id_is = ap (λ item. item.id) is ∙ c.if-index-id.true in
    subst (λ files. IsKeyOf c.args.id files.filed c.in_ok-key.key) c.self.view_is
    (record {
      item = item_at c.self.inside.items.slots c.in_ok-key.key;
      stored = stored;
      item_is = ap (λ id. item_of id (items_of (filed_at c.self.inside.items.slots (list_of c.self.inside.armed 0)))) (sym id_is)
          ∙ item_of_stored c.in_ok-key.key (item_at c.self.inside.items.slots c.in_ok-key.key) (filed_at c.self.inside.items.slots (list_of c.self.inside.armed 0)) distinct stored.under;
      id_is = id_is;
    })

pub older-at-requires : goal.older-at-requires
older-at-requires c =
    let stands = standing c.self.inside.items c.self.inside.armed c.self.inside.buckets c.self.inside.names c.self.inside.mask c.self.inside.marks c.self.invariant c.args.id c.loop-step.at (c.len-step-end.result - c.loop-step.step) c.in_ok-key.key c.loop-step.invariant c.in_ok-key.was in
    (bit_and c.args.id c.self.inside.mask, name_in c.self.inside.items c.self.inside.armed c.self.inside.buckets c.self.inside.names c.self.inside.mask c.self.inside.marks c.self.invariant c.args.id, standing_held c.self.inside.items c.self.inside.armed c.self.inside.buckets c.self.inside.names c.self.inside.mask c.self.inside.marks c.self.invariant c.args.id c.loop-step.at (c.len-step-end.result - c.loop-step.step) c.in_ok-key.key c.loop-step.invariant.back stands)

pub loop-step-preserved : goal.loop-step-preserved
loop-step-preserved c =
    let stands = standing c.self.inside.items c.self.inside.armed c.self.inside.buckets c.self.inside.names c.self.inside.mask c.self.inside.marks c.self.invariant c.args.id c.loop-step.at (c.len-step-end.result - c.loop-step.step) c.in_ok-key.key c.loop-step.invariant c.in_ok-key.was in
    let is : item_at c.self.inside.items.slots c.in_ok-key.key ≡ c.index.result.now = ap (λ slot. unwrap_or slot no_item) c.index.ensures in
    let left : c.len-step-end.result - c.loop-step.step - 1 ≡ c.len-step-end.result - (c.loop-step.step + 1) = omega arith in
    subst (Searched c.self.inside.items.slots c.args.id (list_of c.self.inside.names (bit_and c.args.id c.self.inside.mask)) c.older-at.result) left
    (search_on c.self.inside.items c.self.inside.armed c.self.inside.buckets c.self.inside.names c.self.inside.mask c.self.inside.marks c.self.invariant c.args.id c.loop-step.at c.older-at.result (c.len-step-end.result - c.loop-step.step) c.in_ok-key.key c.loop-step.invariant stands
    (c.older-at.ensures (bit_and c.args.id c.self.inside.mask) stands.rest c.loop-step.invariant.back (name_in c.self.inside.items c.self.inside.armed c.self.inside.buckets c.self.inside.names c.self.inside.mask c.self.inside.marks c.self.invariant c.args.id) stands.list_is)
    (λ same. c.if-index-id.false (sym (ap (λ item. item.id) is) ∙ same)))

pub returns : goal.returns
returns c =
    subst (λ files. item_of c.args.id (items_of files.filed) ≡ None) c.self.view_is
    (none_left c.self.inside.items c.self.inside.armed c.self.inside.buckets c.self.inside.names c.self.inside.mask c.self.inside.marks c.self.invariant c.args.id c.loop-step.at (c.len-step-end.result - c.loop-step.step) c.loop-step.invariant (let end = c.loop-step-test.false in omega arith))
