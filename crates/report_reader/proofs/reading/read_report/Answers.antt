use Rattle.std.proofs.Common.{◌≡◌, ◌≢◌, [], length, refl, subst, rules}
use Rattle.text_words.specs.Words.{lines_of}
use Rattle.report_reader.specs.Reading.{ReadsLine}
use Rattle.report_reader.specs.declared.faults.Kind.TheVariants.{NoLineFeed}
use Rattle.report_reader.proofs.Reports.{ReadSoFar, read_more, report_read, only_lines, fault_behind, cause_of, none_of_length}
use Rattle.report_reader.proofs.reading.read_report.Goals as goal

pub returns-in-Err-clause-refused : goal.returns-in-Err-clause-refused
returns-in-Err-clause-refused c =
    let count : c.len.result ≡ length c.loop-words.lines.items = search rules in
    let reads : ReadsLine c.in-Some.words.now c.in_ok-line.field-0 = c.in_ok-line.ensures in
    let why = subst (ReadsLine c.in-Some.words.now) c.in-Err.is reads in
    rw (c.refused.ensures, count)
    (fault_behind c.args.bytes.now c.loop-words.lines.items c.loop-words.rest.now c.in-Some.words.now (lines_of c.in-Some.after.now) c.in-Err.kind c.loop-words.invariant c.in-Some.ensures.found (cause_of c.in-Err.kind c.in-Some.words.now c.in-Some.after.now why))

pub returns-then-not-is_empty-clause-refused : goal.returns-then-not-is_empty-clause-refused
returns-then-not-is_empty-clause-refused c =
    let count : c.len-then-not-is_empty.result ≡ length c.loop-words.lines.items = search rules in
    let some : c.loop-words.rest.now ≢ [] = search rules in
    rw (c.refused-then-not-is_empty.ensures, count)
    (fault_behind c.args.bytes.now c.loop-words.lines.items c.loop-words.rest.now c.loop-words.rest.now [] NoLineFeed c.loop-words.invariant c.in_default.ensures.none (refl, some))

pub loop-words-preserved : goal.loop-words-preserved
loop-words-preserved c =
    let reads : ReadsLine c.in-Some.words.now c.in_ok-line.field-0 = c.in_ok-line.ensures in
    let is = subst (ReadsLine c.in-Some.words.now) c.in-Ok.is reads in
    rw c.in_ok-push-in-Ok.ensures.items
    (read_more c.args.bytes.now c.loop-words.lines.items c.loop-words.rest.now c.in-Some.words.now c.in-Some.after.now c.in-Ok.line c.loop-words.invariant c.in-Some.ensures.found is)

pub returns-clause-lines : goal.returns-clause-lines
returns-clause-lines c =
    let none = none_of_length c.loop-words.rest.now (search rules) in
    report_read c.args.bytes.now c.loop-words.lines.items (subst (ReadSoFar c.args.bytes.now c.loop-words.lines.items) none c.loop-words.invariant)

pub returns-clause-only : goal.returns-clause-only
returns-clause-only c =
    let none = none_of_length c.loop-words.rest.now (search rules) in
    only_lines c.args.bytes.now c.loop-words.lines.items (subst (ReadSoFar c.args.bytes.now c.loop-words.lines.items) none c.loop-words.invariant)
