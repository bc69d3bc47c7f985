use Rattle.std.proofs.Common.{arith, sym}
use Rattle.std.proofs.lemmas.List.{length-set}
use Rattle.key_lists.specs.declared.link.Link.{Link}
use Rattle.key_lists.proofs.Writes.{reads, list_within, last_below, after_push}
use Rattle.key_lists.proofs.key_lists.KeyLists.push.Goals as goal

pub index_mut-requires-2 : goal.index_mut-requires-2
index_mut-requires-2 c =
    let n = c.self.inside.lists in
    let items = c.self.inside.links.items in
    let last = reads items c.args.list c.index.result.now (list_within n items c.args.list c.args.self.now c.self.view_is c.self.invariant c.requires.list) c.index.ensures in
    omega (arith, last_below n c.args.list c.index.result.now.older items c.args.self.now c.self.view_is c.self.invariant c.requires.list (sym last.0))

pub invariant_of-self : goal.invariant_of-self
invariant_of-self c =
    let n = c.self.inside.lists in
    let items = c.self.inside.links.items in
    let last = reads items c.args.list c.index.result.now (list_within n items c.args.list c.args.self.now c.self.view_is c.self.invariant c.requires.list) c.index.ensures in
    let below = last_below n c.args.list c.index.result.now.older items c.args.self.now c.self.view_is c.self.invariant c.requires.list (sym last.0) in
    let second = reads _ c.index.result.now.older c.index_mut-2.result.now (omega (arith, below, length-set {A = Link})) c.index_mut-2.ensures.value in
    let third = reads _ c.args.list c.index_mut-3.result.now (omega (arith, list_within n items c.args.list c.args.self.now c.self.view_is c.self.invariant c.requires.list, length-set {A = Link})) c.index_mut-3.ensures.value in
    (after_push n c.args.key c.args.list c.index.result.now.older items c.index_mut-2.result.now c.index_mut-3.result.now
    c.args.self.now c.self.view_is c.self.invariant c.requires.list c.requires.room c.requires.free (sym last.0) second.0 third.1).rings

pub returns-clause-pushed : goal.returns-clause-pushed
returns-clause-pushed c =
    let n = c.self.inside.lists in
    let items = c.self.inside.links.items in
    let last = reads items c.args.list c.index.result.now (list_within n items c.args.list c.args.self.now c.self.view_is c.self.invariant c.requires.list) c.index.ensures in
    let below = last_below n c.args.list c.index.result.now.older items c.args.self.now c.self.view_is c.self.invariant c.requires.list (sym last.0) in
    let second = reads _ c.index.result.now.older c.index_mut-2.result.now (omega (arith, below, length-set {A = Link})) c.index_mut-2.ensures.value in
    let third = reads _ c.args.list c.index_mut-3.result.now (omega (arith, list_within n items c.args.list c.args.self.now c.self.view_is c.self.invariant c.requires.list, length-set {A = Link})) c.index_mut-3.ensures.value in
    (after_push n c.args.key c.args.list c.index.result.now.older items c.index_mut-2.result.now c.index_mut-3.result.now
    c.args.self.now c.self.view_is c.self.invariant c.requires.list c.requires.room c.requires.free (sym last.0) second.0 third.1).pushed

pub returns-clause-others : goal.returns-clause-others
returns-clause-others c =
    let n = c.self.inside.lists in
    let items = c.self.inside.links.items in
    let last = reads items c.args.list c.index.result.now (list_within n items c.args.list c.args.self.now c.self.view_is c.self.invariant c.requires.list) c.index.ensures in
    let below = last_below n c.args.list c.index.result.now.older items c.args.self.now c.self.view_is c.self.invariant c.requires.list (sym last.0) in
    let second = reads _ c.index.result.now.older c.index_mut-2.result.now (omega (arith, below, length-set {A = Link})) c.index_mut-2.ensures.value in
    let third = reads _ c.args.list c.index_mut-3.result.now (omega (arith, list_within n items c.args.list c.args.self.now c.self.view_is c.self.invariant c.requires.list, length-set {A = Link})) c.index_mut-3.ensures.value in
    (after_push n c.args.key c.args.list c.index.result.now.older items c.index_mut-2.result.now c.index_mut-3.result.now
    c.args.self.now c.self.view_is c.self.invariant c.requires.list c.requires.room c.requires.free (sym last.0) second.0 third.1).others
