use Rattle.std.proofs.Common.{◌≡◌, drop}
use Rattle.view_text.specs.Pages.{end_of}
use Rattle.view_text.proofs.pages.end_of.Given as goal

abbrev pub invariant-loop-span : goal.invariant-loop-span
invariant-loop-span l =
    record { end : end_of l.end (drop l.span-index l.spans) ≡ end_of 0 l.spans }
