-- The line that the program prints: the text of the reply, and the end of the line. Assumes nothing: this is a definition.
use Rattle.std.specs.Prelude.{List, ℕ, ◌++◌, codes}
use Rattle.simplifier.specs.Replies.{simplify_text}
use Rattle.simplifier.specs.declared.exports.SimplifyReply.{SimplifyReply}

abbrev pub line_of : SimplifyReply → List ℕ
line_of reply = simplify_text reply ++ codes "\n"
