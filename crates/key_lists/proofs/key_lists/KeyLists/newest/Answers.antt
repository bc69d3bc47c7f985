use Rattle.key_lists.proofs.Writes.{reads, list_within, last_none, last_some}
use Rattle.key_lists.proofs.key_lists.KeyLists.newest.Goals as goal

pub returns-then-last-self : goal.returns-then-last-self
returns-then-last-self c =
    let n = c.self.inside.lists in
    let items = c.self.inside.links.items in
    let read = reads items c.args.list c.index.result.now (list_within n items c.args.list c.args.self.now c.self.view_is c.self.invariant c.requires) c.index.ensures in
    last_none n items c.args.list c.index.result.now.older c.args.self.now c.self.view_is c.self.invariant c.requires read.0 c.if-last-self.true

pub returns : goal.returns
returns c =
    let n = c.self.inside.lists in
    let items = c.self.inside.links.items in
    let read = reads items c.args.list c.index.result.now (list_within n items c.args.list c.args.self.now c.self.view_is c.self.invariant c.requires) c.index.ensures in
    last_some n items c.args.list c.index.result.now.older c.args.self.now c.self.view_is c.self.invariant c.requires read.0 c.if-last-self.false
