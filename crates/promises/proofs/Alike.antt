-- What a done call makes of a tree depends on the tree alone. Assumes nothing.
use Rattle.std.specs.Prelude.{List, ◌≡◌, ℕ}
use Rattle.std.proofs.Common.{ap, sym, ◌∙◌}
use Rattle.arena.specs.Live.{tree_of}
use Rattle.promises.specs.After.{DoneCall}
use Rattle.promises.proofs.After.{tree_after}
use Rattle.rules.specs.Call.{words_after}
use Rattle.theory.specs.TreeRun.{reduced}

-- 01, contracts: two done calls whose trees under the root are the same give the same simplified tree, whatever else lies in either arena
pub same_tree : {words words₂ : List ℕ} {count root root' m count₂ root₂ root₂' m₂ : ℕ} →
    DoneCall words count root root' m → DoneCall words₂ count₂ root₂ root₂' m₂ → tree_of count words root ≡ tree_of count₂ words₂ root₂ →
    tree_of m (words_after words count root) root' ≡ tree_of m₂ (words_after words₂ count₂ root₂) root₂'
same_tree call call₂ e = tree_after call ∙ ap reduced e ∙ sym (tree_after call₂)
