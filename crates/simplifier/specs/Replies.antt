-- An answer as the struct that is handed out: 01's number, place and values of it. Assumes nothing: these are definitions.
use Rattle.std.specs.Prelude.{List, ℕ, ◌++◌, codes, decimal}
use Rattle.rules.specs.Call.{simplified_number, simplified_place, simplified_root, simplified_count, SimplifiedAnswer}
use Rattle.simplifier.specs.declared.exports.CheckReply.{CheckReply}
use Rattle.simplifier.specs.declared.exports.EvaluateReply.{EvaluateReply}
use Rattle.simplifier.specs.declared.exports.SimplifyReply.{SimplifyReply}
use Rattle.tree.specs.Form.{verdict_number, verdict_place, Verdict}
use Rattle.tree.specs.Rows.{evaluated_number, evaluated_place, evaluated_value, Evaluated}

abbrev pub check_reply : Verdict → CheckReply
check_reply v = record { number = verdict_number v; place = verdict_place v }

abbrev pub simplify_reply : SimplifiedAnswer → (count : ℕ) → SimplifyReply
simplify_reply a count =
    record { number = simplified_number a; place = simplified_place a; root = simplified_root a; count = simplified_count a count }

abbrev pub evaluate_reply : Evaluated → EvaluateReply
evaluate_reply a = record { number = evaluated_number a; place = evaluated_place a; value = evaluated_value a }

-- a simplify's struct as it is printed: its numbers in decimals with a space between
abbrev pub simplify_text : SimplifyReply → List ℕ
simplify_text a = decimal a.number ++ (codes " " ++ (decimal a.place ++ (codes " " ++ (decimal a.root ++ (codes " " ++ decimal a.count)))))
