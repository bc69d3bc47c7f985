use Rattle.std.proofs.Common.{List, ℕ, [], ◌∷◌, length, ap, ◌∙◌, sym, subst, arith}
use Rattle.std.proofs.lemmas.Result.{err_from_is_err_and}
use Rattle.tree_plan.specs.Paths.{cpu_count_of}
use Rattle.shared_rule.specs.Rule.{Shows}
use Rattle.shared_rule.specs.Starts.{first_view}
use Rattle.shared_table.proofs.ready.laid_out.Goals as goal

pub of_words-requires : goal.of_words-requires
of_words-requires g c =
    let o = c.args.opening.now.core in
    let made = c.args.opening.now.made in
    subst (λ (l : List ℕ). Shows o l (first_view o made ∷ [])) (sym c.deref.ensures.value)
    (c.law_begins.ensures o made c.in_ok-first.first.items c.kept.ensures.fits c.requires.settled
    (omega (arith, c.requires.few)) (c.in_ok-first.ensures made))

pub returns-clause-table : goal.returns-clause-table
returns-clause-table g c =
    let made = c.in_ok-words.ensures in record {
      opened = ap (λ k. k.core) made.5;
      count = made.0 ∙ (ap length c.deref.ensures.value ∙ (c.in_ok-first.ensures 0).count);
      slots = made.1;
      seated = made.2;
      knows = made.4;
    }

pub first_words-requires : goal.first_words-requires
first_words-requires g c = c.requires.settled

pub returns-clause-room : goal.returns-clause-room
returns-clause-room g c =
    let count = c.from.ensures ∙ (c.cpu_count.ensures.count ∙ ap cpu_count_of c.tree.ensures.tree) in
    let sized = c.tree.ensures.sized.cpus in
    record {
      none = c.reserve.ensures.items ∙ c.new-cpus.ensures.items;
      enough = omega (arith, count, sized, c.in_ok-reserve.ensures.ok);
    }

pub returns-in_err-first-clause-table : goal.returns-in_err-first-clause-table
returns-in_err-first-clause-table g c =
    let p = err_from_is_err_and c.from_residual.result c.from_residual.ensures.1 in rw p.1 tt

pub returns-in_err-first-clause-room : goal.returns-in_err-first-clause-room
returns-in_err-first-clause-room g c =
    let p = err_from_is_err_and c.from_residual.result c.from_residual.ensures.1 in rw p.1 tt

pub returns-in_err-reserve-clause-table : goal.returns-in_err-reserve-clause-table
returns-in_err-reserve-clause-table g c =
    let left = c.from_residual-in_err-reserve in
    let p = err_from_is_err_and left.result left.ensures.1 in rw p.1 tt

pub returns-in_err-reserve-clause-room : goal.returns-in_err-reserve-clause-room
returns-in_err-reserve-clause-room g c =
    let left = c.from_residual-in_err-reserve in
    let p = err_from_is_err_and left.result left.ensures.1 in rw p.1 tt

pub returns-in_err-words-clause-table : goal.returns-in_err-words-clause-table
returns-in_err-words-clause-table g c =
    let left = c.from_residual-in_err-words in
    let p = err_from_is_err_and left.result left.ensures.1 in rw p.1 tt

pub returns-in_err-words-clause-room : goal.returns-in_err-words-clause-room
returns-in_err-words-clause-room g c =
    let left = c.from_residual-in_err-words in
    let p = err_from_is_err_and left.result left.ensures.1 in rw p.1 tt
