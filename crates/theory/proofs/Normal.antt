-- The normal form: at every node the rule says keep, and no child is Top. What is normal stays as it is. Assumes nothing.
use Rattle.std.specs.Prelude.{false, ◌||◌, ◌≡◌, refl, ℕ, zero, suc}
use Rattle.std.proofs.Common.{ap, ◌∙◌}
use Rattle.format.specs.declared.Bin.{Bin}
use Rattle.format.specs.declared.Un.{Un}
use Rattle.rules.specs.Rules.{bin_act, un_act}
use Rattle.rules.specs.declared.Act.{Act}
use Rattle.theory.specs.TreeRun.{over_one, over_two, reduced_for}
use Rattle.tree.specs.Tree.{Tree, top, entry, const, bind, unary, binary, is_top}
use Rattle.theory.specs.Normal.{Normal}

-- A NORMAL TREE STAYS, for any number of steps

keep_one : (again : Tree → Tree) (op : Un) (s : ℕ) (a : Tree) → is_top a ≡ false → un_act op s a ≡ Act.Keep → over_one again op s a ≡ unary op s a
keep_one again op s a p q = rw (p, q)

keep_two : (again : Tree → Tree) (op : Bin) (s : ℕ) (a b : Tree) → (is_top a || is_top b) ≡ false → bin_act op s a b ≡ Act.Keep →
    over_two again op s a b ≡ binary op s a b
keep_two again op s a b p q = rw (p, q)

pub normal_stays : (n : ℕ) (t : Tree) → Normal t → reduced_for n t ≡ t
normal_stays zero t h = refl
normal_stays (suc n) top h = refl
normal_stays (suc n) (entry s sp o) h = refl
normal_stays (suc n) (const s v) h = refl
normal_stays (suc n) (bind s d) h = refl
normal_stays (suc n) (unary op s a) h = ap (over_one (reduced_for n) op s) (normal_stays n a h.0) ∙ keep_one (reduced_for n) op s a h.1 h.2
normal_stays (suc n) (binary op s a b) h =
    ap (λ (x : Tree). over_two (reduced_for n) op s x (reduced_for n b)) (normal_stays n a h.0)
    ∙ ap (over_two (reduced_for n) op s a) (normal_stays n b h.1)
    ∙ keep_two (reduced_for n) op s a b h.2 h.3
