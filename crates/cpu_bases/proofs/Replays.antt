-- for crates above: journals that are played again, one after another
use Rattle.std.proofs.Common.{◌≡◌, List, [], ◌∷◌, ◌++◌, refl, ap, subst, sym, ◌∙◌, append_assoc}
use Rattle.std.proofs.lemmas.List.{append-nil}
use Rattle.wheel_core.specs.PlainBase.{PlainBase}
use Rattle.cpu_bases.specs.declared.entry.Entry.{Entry}
use Rattle.cpu_bases.specs.ByClass.{ByClass}
use Rattle.cpu_bases.specs.CpuBases.{CpuBases}
use Rattle.cpu_bases.specs.Laws.{ReplaysOn}
use Rattle.cpu_bases.specs.Replay.{AddsReplay, EachSays, redo, replay}

pub replay-append : (journal more : List Entry) (start : ByClass PlainBase)
    → replay (journal ++ more) start ≡ replay more (replay journal start)
replay-append [] more start = refl
replay-append (entry ∷ journal) more start = replay-append journal more (redo entry start)

pub EachSays-append : (journal more : List Entry) (start : ByClass PlainBase)
    → EachSays journal start → EachSays more (replay journal start)
    → EachSays (journal ++ more) start
EachSays-append [] more start said says = says
EachSays-append (entry ∷ journal) more start said says =
    (said.0, EachSays-append journal more (redo entry start) said.1 says)

-- nothing was done, and one thing after another
pub adds_none : (cpu : CpuBases) → AddsReplay cpu cpu
adds_none cpu = record { more = []; grows = sym (append-nil cpu.journal); bases = refl; says = tt }

pub adds_both : (old mid new : CpuBases) → AddsReplay old mid → AddsReplay mid new
    → AddsReplay old new
adds_both old mid new first second = record {
  more = first.more ++ second.more;
  grows =
      second.grows
      ∙ (ap (λ journal. journal ++ second.more) first.grows
      ∙ append_assoc old.journal first.more second.more);
  bases =
      second.bases
      ∙ (ap (replay second.more) first.bases
      ∙ sym (replay-append first.more second.more old.bases));
  says =
      EachSays-append first.more second.more old.bases first.says
      (subst (EachSays second.more) first.bases second.says);
}

pub replays_on : ReplaysOn
replays_on old new adds start was = record {
  bases =
      adds.bases
      ∙ (ap (replay adds.more) was.bases
      ∙ (sym (replay-append old.journal adds.more start)
      ∙ ap (λ journal. replay journal start) (sym adds.grows)));
  says =
      subst (λ journal. EachSays journal start) (sym adds.grows)
      (EachSays-append old.journal adds.more start was.says
      (subst (EachSays adds.more) was.bases adds.says));
}
