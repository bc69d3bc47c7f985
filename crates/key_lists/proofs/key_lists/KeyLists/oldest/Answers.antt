use Rattle.key_lists.proofs.Writes.{reads, list_within, first_none, first_some}
use Rattle.key_lists.proofs.key_lists.KeyLists.oldest.Goals as goal

pub returns-then-first-self : goal.returns-then-first-self
returns-then-first-self c =
    let n = c.self.inside.lists in
    let items = c.self.inside.links.items in
    let read = reads items c.args.list c.index.result.now (list_within n items c.args.list c.args.self.now c.self.view_is c.self.invariant c.requires) c.index.ensures in
    first_none n items c.args.list c.index.result.now.newer c.args.self.now c.self.view_is c.self.invariant c.requires read.1 c.if-first-self.true

pub returns : goal.returns
returns c =
    let n = c.self.inside.lists in
    let items = c.self.inside.links.items in
    let read = reads items c.args.list c.index.result.now (list_within n items c.args.list c.args.self.now c.self.view_is c.self.invariant c.requires) c.index.ensures in
    first_some n items c.args.list c.index.result.now.newer c.args.self.now c.self.view_is c.self.invariant c.requires read.1 c.if-first-self.false
