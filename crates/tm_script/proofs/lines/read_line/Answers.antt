use Rattle.std.proofs.Common.{◌∙◌}
use Rattle.text_words.specs.Words.{words_of}
use Rattle.tm_script.proofs.Bridge.{line_in-heard}
use Rattle.tm_script.proofs.lines.read_line.Goals as goal

pub returns : goal.returns
returns c = c.read_placed.ensures ∙ line_in-heard c.args.known.now (words_of c.args.line.now)
