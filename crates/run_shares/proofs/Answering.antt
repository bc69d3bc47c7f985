-- the lines of a CPU's operations, one behind the other
use Rattle.std.proofs.Common.{◌≡◌, ℕ, ◌+◌, ◌<◌, ◌≤◌, List, [], ◌∷◌, ◌++◌, refl, sym}
use Rattle.std.proofs.Common.{ap, ◌∙◌, subst, subst₂, append-nil, append_assoc, arith, get_or}
use Rattle.std.proofs.Common.{length, length-append, take}
use Rattle.std.proofs.lemmas.List.{take_more}
use Rattle.atomic_table.specs.Seated.{TableId}
use Rattle.tm_script.specs.declared.syntax.Op.{Op}
use Rattle.tm_report.specs.declared.lines.Line.{Line}
use Rattle.core_world.specs.World.{World, cpu_of}
use Rattle.idle_wakeup.specs.shared_rule.declared.parts.PassView.{PassView}
use Rattle.idle_wakeup.specs.shared_rule.Passes.{HeldPass}
use Rattle.shared_acts.proofs.Gaining.{same_pass}
use Rattle.run_story.specs.Shares.{TellsOp}
use Rattle.run_story.proofs.Going as going
use Rattle.run_story.proofs.Knowing.{ops_more}
use Rattle.run_shares.specs.Doing.{by_pass}
use Rattle.run_shares.specs.Standing.{PassGrows, HasAnswered, HaveAnswered, MayAnswer, StandsBy}
use Rattle.run_shares.proofs.Growing.{grown_none, grown_then, knows_more}

-- no operation
pub none_answered : (table : TableId) (o : World) (now walks : ℕ) (held : HeldPass)
    (before : List Line) → MayAnswer table o walks held
    → HaveAnswered table o now [] held held before before
none_answered table o now walks held before may = record {
  told = [];
  lines_are = sym (append-nil before);
  stepped = record {
    before = may.pass;
    later = may.pass;
    had = may.seated;
    has = may.seated;
    same_cpu = refl;
    grows = grown_none may.pass;
    goes = λ s stood.
        (s, stood, going.none (by_pass o may.pass) now held.cpu (cpu_of o held.cpu).online s);
  };
}

-- one operation more
one_answered : (table : TableId) (o : World) (now : ℕ) (ops : List Op) (op : Op)
    (held mid after : HeldPass) (before lines : List Line) (l : Line)
    → HaveAnswered table o now ops held mid before lines
    → HasAnswered table o now op.what op.line mid after l
    → HaveAnswered table o now (ops ++ op ∷ []) held after before (lines ++ l ∷ [])
one_answered table o now ops op held mid after before lines l first next =
    let p = first.stepped.before in
    let q = first.stepped.later in
    let r = next.later in
    let same : next.before ≡ q = same_pass table mid next.before q next.had first.stepped.has in
    let grows : PassGrows 1 q r = subst (λ (z : PassView). PassGrows 1 z r) same next.grows in
    let online = (cpu_of o held.cpu).online in
    record {
      told = first.told ++ l ∷ [];
      lines_are =
          ap (λ (x : List Line). x ++ l ∷ []) first.lines_are
          ∙ append_assoc before first.told (l ∷ []);
      stepped = record {
        before = p;
        later = r;
        had = first.stepped.had;
        has = next.has;
        same_cpu = next.same_cpu ∙ first.stepped.same_cpu;
        grows =
            subst (λ n. PassGrows n p r) (sym (length-append ops (op ∷ [])))
            (grown_then (length ops) 1 p q r first.stepped.grows grows);
        goes = λ s stood.
            let a = first.stepped.goes s stood in
            let b = next.goes a.0 (subst (λ (z : PassView). StandsBy z a.0) (sym same) a.1) in
            let told : TellsOp (by_pass o r) now held.cpu online op a.0 b.0 l =
            subst (λ c. TellsOp (by_pass o r) now c (cpu_of o c).online op a.0 b.0 l)
            first.stepped.same_cpu b.2 in (
              b.0,
              b.1,
              going.one_more (by_pass o r) now held.cpu online ops op s a.0 b.0 first.told l
                  (ops_more (by_pass o q) (by_pass o r) now held.cpu (knows_more o 1 q r grows)
                  online ops s a.0 first.told a.2) told,
            );
      };
    }

-- that at a place behind those that are answered
pub next_answered : (table : TableId) (o : World) (now : ℕ) (ops : List Op) (i : ℕ) (d : Op)
    (held mid after : HeldPass) (before lines told : List Line) (l : Line) → i < length ops
    → HaveAnswered table o now (take i ops) held mid before lines
    → HasAnswered table o now (get_or ops i d).what (get_or ops i d).line mid after l
    → told ≡ lines ++ l ∷ []
    → HaveAnswered table o now (take (i + 1) ops) held after before told
next_answered table o now ops i d held mid after before lines told l low first next is =
    subst₂ (λ (xs : List Op) (x : List Line). HaveAnswered table o now xs held after before x)
    (sym (take_more ops i d low)) (sym is)
    (one_answered table o now (take i ops) (get_or ops i d) held mid after before lines l first
    next)

-- after some of the operations the CPU may answer one more
pub may_more : (table : TableId) (o : World) (now many : ℕ) (ops : List Op)
    (held mid : HeldPass) (before lines : List Line) → length ops + 1 ≤ many
    → MayAnswer table o many held → HaveAnswered table o now ops held mid before lines
    → MayAnswer table o 1 mid
may_more table o now many ops held mid before lines low may done =
    let step = done.stepped in
    let same : step.before ≡ may.pass =
    same_pass table held step.before may.pass step.had may.seated in
    let few = may.few in
    let walks = step.grows.few in
    let began = ap (λ (z : PassView). z.walks) same in
    record {
      pass = step.later;
      seated = step.has;
      opening = step.grows.opening ∙ (ap (λ (z : PassView). z.opening) same ∙ may.opening);
      own =
          step.grows.cpu
          ∙ (ap (λ (z : PassView). z.cpu) same ∙ (may.own ∙ sym step.same_cpu));
      low = subst (λ n. n < length o.cpus) (sym step.same_cpu) may.low;
      outside = step.grows.inside ∙ (ap (λ (z : PassView). z.inside) same ∙ may.outside);
      few = omega (arith, low, few, walks, began);
    }
