use Rattle.std.proofs.Common.{◌+◌, arith, sym}
use Rattle.std.proofs.lemmas.List.{length-set}
use Rattle.key_lists.specs.declared.link.Link.{Link}
use Rattle.key_lists.proofs.Writes.{reads, is_held, after_unlink}
use Rattle.key_lists.proofs.key_lists.KeyLists.unlink.Goals as goal

pub overflow_add-place : goal.overflow_add-place
overflow_add-place c =
    let held = is_held c.self.inside.lists c.self.inside.links.items c.args.key c.args.self.now c.self.view_is c.self.invariant c.requires.held in
    omega (arith, held.place)

pub index-requires : goal.index-requires
index-requires c =
    let held = is_held c.self.inside.lists c.self.inside.links.items c.args.key c.args.self.now c.self.view_is c.self.invariant c.requires.held in
    omega (arith, held.place)

pub index_mut-requires : goal.index_mut-requires
index_mut-requires c =
    let held = is_held c.self.inside.lists c.self.inside.links.items c.args.key c.args.self.now c.self.view_is c.self.invariant c.requires.held in
    let read = reads c.self.inside.links.items (c.self.inside.lists + c.args.key) c.index.result.now held.place c.index.ensures in
    omega (arith, held.near.older_within, read.0)

pub index_mut-requires-2 : goal.index_mut-requires-2
index_mut-requires-2 c =
    let held = is_held c.self.inside.lists c.self.inside.links.items c.args.key c.args.self.now c.self.view_is c.self.invariant c.requires.held in
    let read = reads c.self.inside.links.items (c.self.inside.lists + c.args.key) c.index.result.now held.place c.index.ensures in
    omega (arith, held.near.newer_within, read.1)

pub invariant_of-self : goal.invariant_of-self
invariant_of-self c =
    let items = c.self.inside.links.items in
    let held = is_held c.self.inside.lists items c.args.key c.args.self.now c.self.view_is c.self.invariant c.requires.held in
    let read = reads items (c.self.inside.lists + c.args.key) c.index.result.now held.place c.index.ensures in
    let older = reads items c.index.result.now.older c.index_mut.result.now (omega (arith, held.near.older_within, read.0)) c.index_mut.ensures.value in
    let newer = reads _ c.index.result.now.newer c.index_mut-2.result.now (omega (arith, held.near.newer_within, read.1, length-set {A = Link})) c.index_mut-2.ensures.value in
    (after_unlink c.self.inside.lists c.args.key c.index.result.now.older c.index.result.now.newer items c.index_mut.result.now c.index_mut-2.result.now
    c.args.self.now c.self.view_is c.self.invariant c.requires.held (sym read.0) (sym read.1) older.0 newer.1).0

pub returns-clause-lists : goal.returns-clause-lists
returns-clause-lists c =
    let items = c.self.inside.links.items in
    let held = is_held c.self.inside.lists items c.args.key c.args.self.now c.self.view_is c.self.invariant c.requires.held in
    let read = reads items (c.self.inside.lists + c.args.key) c.index.result.now held.place c.index.ensures in
    let older = reads items c.index.result.now.older c.index_mut.result.now (omega (arith, held.near.older_within, read.0)) c.index_mut.ensures.value in
    let newer = reads _ c.index.result.now.newer c.index_mut-2.result.now (omega (arith, held.near.newer_within, read.1, length-set {A = Link})) c.index_mut-2.ensures.value in
    (after_unlink c.self.inside.lists c.args.key c.index.result.now.older c.index.result.now.newer items c.index_mut.result.now c.index_mut-2.result.now
    c.args.self.now c.self.view_is c.self.invariant c.requires.held (sym read.0) (sym read.1) older.0 newer.1).1
