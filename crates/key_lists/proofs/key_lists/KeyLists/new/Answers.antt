use Rattle.std.proofs.Common.{refl, arith}
use Rattle.key_lists.proofs.Rings.{empty_rings_keep}
use Rattle.key_lists.proofs.key_lists.KeyLists.new.Goals as goal

pub returns : goal.returns
returns c = record { number_is = refl; empty = (empty_rings_keep c.args.lists c.in_ok-links.links.items c.in_ok-links.ensures (omega arith)).lists_are }
