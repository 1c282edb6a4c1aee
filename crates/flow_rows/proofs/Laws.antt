-- Parts that are laid, joined to one.
use Rattle.std.proofs.Common.{ℕ, zero, suc, ◌≤◌, List, [], ◌∷◌, ◌≡◌, inl, inr, Option, Some, None, subst, sym, arith}
use Rattle.c_walk.specs.declared.around.Around.{Around}
use Rattle.c_walk.specs.Walked.{Walked}
use Rattle.flow_walks.specs.Comes.{Met, Comes, either, turns, loop}
use Rattle.flow_walks.proofs.More.{In, either_in}
use Rattle.flow_rows.specs.Paths.{Graph, HasRow, tells, row_gives, from, From}
use Rattle.flow_rows.specs.Counts.{counts, Counted}
use Rattle.flow_rows.specs.Laying.{Keeps, Grown, Lays, Leads, LedAt, Placed}
use Rattle.flow_rows.specs.declared.numbers.Numbers.{Numbers}
use Rattle.flow_rows.proofs.Paths.{tells_nil, from_nil, ends_in, tells_in, from_more}

-- ---- rows

module _ (h : Graph) where
  row_down : (r x : ℕ) (a : Option Met) → HasRow h r a (x ∷ []) → (m n : ℕ) → n ≤ suc m → In (from h n r) (tells a (from h m x))
  row_down r x a e m zero le w p = ends_in (tells a (from h m x)) (tells_nil a _ (from_nil h m x)) w p
  row_down r x a e m (suc n) le w p = tells_in a _ _ (from_more h n m x (omega arith)) w (subst (λ o. row_gives (from h n) o w) e p)

  tells_up : (x : ℕ) (a : Option Met) (w : List Met) → tells a (From h x) w → (n : ℕ) × tells a (from h n x) w
  tells_up x None w p = p
  tells_up x (Some a) [] p = (0, tt)
  tells_up x (Some a) (b ∷ v) p = (p.1.0, (p.0, p.1.1))

  pub row_lays : (r x : ℕ) (a : Option Met) → HasRow h r a (x ∷ []) → Lays h r (λ k. tells a (k x))
  row_lays r x a e = record {
    down = row_down r x a e;
    up = λ w p. let f = tells_up x a w p in (suc f.0, subst (λ o. row_gives (from h f.0) o w) (sym e) f.1);
  }

  fork_down : (r p q : ℕ) → HasRow h r None (p ∷ q ∷ []) → (m n : ℕ) → n ≤ suc m → In (from h n r) (either (from h m p) (from h m q))
  fork_down r p q e m zero le w s = ends_in (either (from h m p) (from h m q)) (inl (from_nil h m p)) w s
  fork_down r p q e m (suc n) le w s = either_in _ _ _ _ (from_more h n m p (omega arith)) (from_more h n m q (omega arith)) w (subst (λ o. row_gives (from h n) o w) e s)

  fork_up : (r p q : ℕ) → HasRow h r None (p ∷ q ∷ []) → In (either (From h p) (From h q)) (From h r)
  fork_up r p q e w (inl s) = (suc s.0, subst (λ o. row_gives (from h s.0) o w) (sym e) (inl s.1))
  fork_up r p q e w (inr s) = (suc s.0, subst (λ o. row_gives (from h s.0) o w) (sym e) (inr s.1))

  pub fork_lays : (r p q : ℕ) → HasRow h r None (p ∷ q ∷ []) → Lays h r (λ k. either (k p) (k q))
  fork_lays r p q e = record { down = fork_down r p q e; up = fork_up r p q e }

  -- ---- joined

  pub lead_self : (x : ℕ) → Leads h x (λ k. k x)
  lead_self x = record { down = λ m n le. from_more h n m x le; up = λ w p. p }

  pub leads : (r : ℕ) (F : (ℕ → Comes) → Comes) → Lays h r F → Leads h r F
  leads r F l = record { down = λ m n le. l.down m n (omega arith); up = l.up }

  pub lays_then : (r x : ℕ) (F : (ℕ → Comes) → Comes → Comes) (G : (ℕ → Comes) → Comes) → ((k : ℕ → Comes) (i j : Comes) → In i j → In (F k i) (F k j)) → Lays h r (λ k. F k (k x)) → Leads h x G → Lays h r (λ k. F k (G k))
  lays_then r x F G mono f l = record {
    down = λ m n le w p. mono (from h m) (from h m x) (G (from h m)) (l.down m m (omega arith)) w (f.down m n le w p);
    up = λ w p. f.up w (mono (From h) (G (From h)) (From h x) l.up w p);
  }

  pub leads_then : (r x : ℕ) (F : (ℕ → Comes) → Comes → Comes) (G : (ℕ → Comes) → Comes) → ((k : ℕ → Comes) (i j : Comes) → In i j → In (F k i) (F k j)) → Leads h r (λ k. F k (k x)) → Leads h x G → Leads h r (λ k. F k (G k))
  leads_then r x F G mono f l = record {
    down = λ m n le w p. mono (from h m) (from h m x) (G (from h m)) (l.down m m (omega arith)) w (f.down m n le w p);
    up = λ w p. f.up w (mono (From h) (G (From h)) (From h x) l.up w p);
  }

  -- ---- loops: a part that leads to its own row is laid there

  module _ (r : ℕ) (once : (ℕ → Comes) → Comes → Comes) (mono : (k l : ℕ → Comes) → ((t : ℕ) → In (k t) (l t)) → (i j : Comes) → In i j → In (once k i) (once l j)) (f : Lays h r (λ k. once k (k r))) where
    loop_down : (m n : ℕ) → n ≤ suc m → In (from h n r) (turns n (once (from h m)))
    loop_down m zero le w p = p
    loop_down m (suc n) le w p =
        mono (from h n) (from h m) (λ t. from_more h n m t (omega arith)) (from h n r) (turns n (once (from h m))) (loop_down m n (omega arith)) w (f.down n (suc n) (omega arith) w p)

    loop_up : (n : ℕ) → In (turns n (once (From h))) (From h r)
    loop_up zero w p = (0, p)
    loop_up (suc n) w p = f.up w (mono (From h) (From h) (λ t w q. q) (turns n (once (From h))) (From h r) (loop_up n) w p)

    pub loop_lays : Lays h r (λ k. loop (once k))
    loop_lays = record { down = λ m n le w p. (n, loop_down m n le w p); up = λ w p. loop_up p.0 w p.1 }

-- ---- graphs that grow

pub keeps_then : (g h i : Graph) → Keeps g h → Keeps h i → Keeps g i
keeps_then g h i p q r row filled e = q r row filled (p r row filled e)

pub grown_self : (g : Graph) → Grown g g
grown_self g = record { keeps = λ r row filled e. e; within = λ p. p; leaves = λ r ts e. e }

pub grown_then : (g h i : Graph) → Grown g h → Grown h i → Grown g i
grown_then g h i p q = record { keeps = keeps_then g h i p.keeps q.keeps; within = λ x. q.within (p.within x); leaves = λ r ts e. p.leaves r ts (q.leaves r ts e) }

-- ---- parts, wherever they stand

module _ (n : Numbers) where
  -- what has grown before
  pub grown_placed : (g h i : Graph) (m : Numbers) (r : ℕ) (goes : Around → Walked → (ℕ → Comes) → Comes) (walk : Around → Walked → Walked) → Grown g h → Placed h i n m r goes walk → Placed g i n m r goes walk
  grown_placed g h i m r goes walk p a = record { grown = grown_then g h i p a.grown; laid = a.laid; counted = a.counted }

  -- what has grown behind it
  pub placed_grown : (g h i : Graph) (m : Numbers) (r : ℕ) (goes : Around → Walked → (ℕ → Comes) → Comes) (walk : Around → Walked → Walked) → Placed g h n m r goes walk → Grown h i → Placed g i n m r goes walk
  placed_grown g h i m r goes walk a p = record { grown = grown_then g h i a.grown p; laid = λ c w e j k. a.laid c w e j (keeps_then h i j p.keeps k); counted = a.counted }

  -- it leads to a row that was laid before
  pub lead_placed : (g h i : Graph) (m : Numbers) (r x : ℕ) (F : Around → Walked → (ℕ → Comes) → Comes → Comes) (G : Walked → (ℕ → Comes) → Comes) (walk : Around → Walked → Walked) → ((c : Around) (w : Walked) (k : ℕ → Comes) (i j : Comes) → In i j → In (F c w k i) (F c w k j)) → Grown g h → ((w : Walked) → counts w ≡ n → LedAt h x (G w)) → Placed h i n m r (λ c w k. F c w k (k x)) walk → Placed g i n m r (λ c w k. F c w k (G w k)) walk
  lead_placed g h i m r x F G walk mono p l a = record {
    grown = grown_then g h i p a.grown;
    laid = λ c w e j k. lays_then j r x (F c w) (G w) (mono c w) (a.laid c w e j k) (l w e j (keeps_then h i j a.grown.keeps k));
    counted = a.counted;
  }

  -- it leads to a row at which another part is laid behind it
  pub then_placed : (g h i : Graph) (m l : Numbers) (r x : ℕ) (F : Around → Walked → (ℕ → Comes) → Comes → Comes) (G : Around → Walked → (ℕ → Comes) → Comes) (walk step : Around → Walked → Walked) → ((c : Around) (w : Walked) (k : ℕ → Comes) (i j : Comes) → In i j → In (F c w k i) (F c w k j)) → Placed g h n m r (λ c w k. F c w k (k x)) walk → Placed h i m l x G step → Placed g i n l r (λ c w k. F c w k (G c (walk c w) k)) (λ c w. step c (walk c w))
  then_placed g h i m l r x F G walk step mono a b = record {
    grown = grown_then g h i a.grown b.grown;
    laid = λ c w e j k. lays_then j r x (F c w) (G c (walk c w)) (mono c w) (a.laid c w e j (keeps_then h i j b.grown.keeps k)) (leads j x (G c (walk c w)) (b.laid c (walk c w) (a.counted c w e) j k));
    counted = λ c w e. b.counted c (walk c w) (a.counted c w e);
  }

  -- behind what is counted by itself
  pub counted_placed : (g h : Graph) (m l : Numbers) (r : ℕ) (G : Around → Walked → (ℕ → Comes) → Comes) (walk step : Around → Walked → Walked) → Counted n m walk → Placed g h m l r G step → Placed g h n l r (λ c w. G c (walk c w)) (λ c w. step c (walk c w))
  counted_placed g h m l r G walk step a b = record {
    grown = b.grown;
    laid = λ c w e. b.laid c (walk c w) (a c w e);
    counted = λ c w e. b.counted c (walk c w) (a c w e);
  }
