use Rattle.std.proofs.Common.{◌∙◌, ap, sym, Some, subst, rules}
use Rattle.std.specs.Prelude.{unwrap_or}
use Rattle.std.specs.Option.{option_map}
use Rattle.wheel_base.specs.Files.{IsStored, filed_at, item_at, in_bucket, last_entry, no_item}
use Rattle.key_lists.specs.Tables.{list_of}
use Rattle.wheel_base.proofs.Leaving.{newest_is, newest_stored, newest_found}
use Rattle.wheel_base.proofs.store.Store.newest.Goals as goal

pub returns-in_err-key-clause-last : goal.returns-in_err-key-clause-last
returns-in_err-key-clause-last c =
    let was = c.in_err-key.was in
    c.from_residual.ensures
    ∙ (ap (λ k. option_map (λ key. (key, item_at c.self.inside.items.slots key)) k) (sym was ∙ c.newest.ensures)
    ∙ (sym (newest_is c.self.inside.items c.self.inside.armed c.self.inside.buckets c.self.inside.names c.self.inside.mask c.self.inside.marks c.args.bucket c.self.invariant c.requires)
    ∙ ap (λ files. last_entry (in_bucket c.args.bucket files.filed)) c.self.view_is))

pub index-requires : goal.index-requires
index-requires c =
    let stored = newest_stored c.self.inside.items c.self.inside.armed c.self.inside.buckets c.self.inside.names c.self.inside.mask c.self.inside.marks c.args.bucket c.in_ok-key.key c.self.invariant c.requires (sym c.newest.ensures ∙ c.in_ok-key.was) in
    rw stored (search rules)

pub returns-clause-last : goal.returns-clause-last
returns-clause-last c =
    let is = ap (λ slot. unwrap_or slot no_item) c.index.ensures in
    ap (λ item. Some (c.in_ok-key.key, item)) (sym is)
    ∙ (ap (λ k. option_map (λ key. (key, item_at c.self.inside.items.slots key)) k) (sym c.in_ok-key.was ∙ c.newest.ensures)
    ∙ (sym (newest_is c.self.inside.items c.self.inside.armed c.self.inside.buckets c.self.inside.names c.self.inside.mask c.self.inside.marks c.args.bucket c.self.invariant c.requires)
    ∙ ap (λ files. last_entry (in_bucket c.args.bucket files.filed)) c.self.view_is))

pub returns-clause-stored : goal.returns-clause-stored
returns-clause-stored c =
    let is = ap (λ slot. unwrap_or slot no_item) c.index.ensures in
    let found = newest_found c.self.inside.items c.self.inside.armed c.self.inside.buckets c.self.inside.names c.self.inside.mask c.self.inside.marks c.args.bucket c.in_ok-key.key c.self.invariant c.requires (sym c.newest.ensures ∙ c.in_ok-key.was) in
    subst (λ files. IsStored files.filed (c.in_ok-key.key, c.index.result.now)) c.self.view_is (subst (λ item. IsStored (filed_at c.self.inside.items.slots (list_of c.self.inside.armed 0)) (c.in_ok-key.key, item)) is found)
