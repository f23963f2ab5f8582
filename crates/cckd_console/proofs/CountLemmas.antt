-- How counts rise over several stretches.
use Rattle.std.proofs.Common.{◌≡◌, ◌+◌, List, [], ◌∷◌, ◌++◌, Option, Some, None, ap, subst, sym, arith}
use Rattle.cckd_shelf.specs.declared.fault.Faults.{Faults}
use Rattle.cckd_shelf.specs.declared.fault.Kind.{Kind}
use Rattle.cckd_shelf.specs.declared.fault.Kind.TheVariants.{Reads, Writes, Syncs, Takes, Puts}
use Rattle.cckd_shelf.specs.Faults.{no_faults, Raises}
use Rattle.cckd_base.specs.declared.reply.Reply.{Reply}
use Rattle.cckd_engine.specs.Calls.{CountsOne, CountsReply, fault_told}
use Rattle.cckd_console.specs.Counts.{RoseBy, one_more}
use Rattle.cckd_console.specs.Served.{Served, is_told, told_in, told_of, faults_told}

-- no call failed
pub rose_none : (f : Faults) → RoseBy no_faults f f
rose_none f = record { reads = omega arith; writes = omega arith; syncs = omega arith; takes = omega arith; puts = omega arith }

pub rose_still : (old new : Faults) → new ≡ old → RoseBy no_faults old new
rose_still old new same = subst (RoseBy no_faults old) (sym same) (rose_none old)

-- two stretches in a row
unfoldable pub sum_of : Faults → Faults → Faults
sum_of m n = record {
  reads = m.reads + n.reads;
  writes = m.writes + n.writes;
  syncs = m.syncs + n.syncs;
  takes = m.takes + n.takes;
  puts = m.puts + n.puts;
}

pub rose_twice : (m n a b c : Faults) → RoseBy m a b → RoseBy n b c → RoseBy (sum_of m n) a c
unfolding sum_of
rose_twice m n a b c f g = record {
  reads = omega (arith, f.reads, g.reads);
  writes = omega (arith, f.writes, g.writes);
  syncs = omega (arith, f.syncs, g.syncs);
  takes = omega (arith, f.takes, g.takes);
  puts = omega (arith, f.puts, g.puts);
}

-- nothing failed before a stretch, or behind it
pub rose_later : (m a b c : Faults) → b ≡ a → RoseBy m b c → RoseBy m a c
rose_later m a b c same rose = subst (λ (f : Faults). RoseBy m f c) same rose

pub rose_so_far : (m a b c : Faults) → RoseBy m a b → c ≡ b → RoseBy m a c
rose_so_far m a b c rose same = subst (RoseBy m a) (sym same) rose

-- a call more, of each kind
pub rose_and_one : (kind : Kind) (m a b c : Faults) → RoseBy m a b → Raises kind b c → RoseBy (one_more kind m) a c
rose_and_one Reads m a b c f h = record {
  reads = omega (arith, f.reads, h.fell.reads, ap (λ (x : Faults). x.reads) h.counts);
  writes = omega (arith, f.writes, ap (λ (x : Faults). x.writes) h.counts);
  syncs = omega (arith, f.syncs, ap (λ (x : Faults). x.syncs) h.counts);
  takes = omega (arith, f.takes, ap (λ (x : Faults). x.takes) h.counts);
  puts = omega (arith, f.puts, ap (λ (x : Faults). x.puts) h.counts);
}
rose_and_one Writes m a b c f h = record {
  reads = omega (arith, f.reads, ap (λ (x : Faults). x.reads) h.counts);
  writes = omega (arith, f.writes, h.fell.writes, ap (λ (x : Faults). x.writes) h.counts);
  syncs = omega (arith, f.syncs, ap (λ (x : Faults). x.syncs) h.counts);
  takes = omega (arith, f.takes, ap (λ (x : Faults). x.takes) h.counts);
  puts = omega (arith, f.puts, ap (λ (x : Faults). x.puts) h.counts);
}
rose_and_one Syncs m a b c f h = record {
  reads = omega (arith, f.reads, ap (λ (x : Faults). x.reads) h.counts);
  writes = omega (arith, f.writes, ap (λ (x : Faults). x.writes) h.counts);
  syncs = omega (arith, f.syncs, h.fell.syncs, ap (λ (x : Faults). x.syncs) h.counts);
  takes = omega (arith, f.takes, ap (λ (x : Faults). x.takes) h.counts);
  puts = omega (arith, f.puts, ap (λ (x : Faults). x.puts) h.counts);
}
rose_and_one Takes m a b c f h = record {
  reads = omega (arith, f.reads, ap (λ (x : Faults). x.reads) h.counts);
  writes = omega (arith, f.writes, ap (λ (x : Faults). x.writes) h.counts);
  syncs = omega (arith, f.syncs, ap (λ (x : Faults). x.syncs) h.counts);
  takes = omega (arith, f.takes, h.fell.takes, ap (λ (x : Faults). x.takes) h.counts);
  puts = omega (arith, f.puts, ap (λ (x : Faults). x.puts) h.counts);
}
rose_and_one Puts m a b c f h = record {
  reads = omega (arith, f.reads, ap (λ (x : Faults). x.reads) h.counts);
  writes = omega (arith, f.writes, ap (λ (x : Faults). x.writes) h.counts);
  syncs = omega (arith, f.syncs, ap (λ (x : Faults). x.syncs) h.counts);
  takes = omega (arith, f.takes, ap (λ (x : Faults). x.takes) h.counts);
  puts = omega (arith, f.puts, h.fell.puts, ap (λ (x : Faults). x.puts) h.counts);
}

-- one call of a kind
pub rose_one : (kind : Kind) (old new : Faults) → Raises kind old new → RoseBy (one_more kind no_faults) old new
rose_one kind old new h = rose_and_one kind no_faults old old new (rose_none old) h

-- what failed before the last text, and the put that failed in it
pub rose_and_none : (m a b c : Faults) → RoseBy m a b → RoseBy no_faults b c → RoseBy m a c
rose_and_none m a b c f g = record {
  reads = omega (arith, f.reads, g.reads);
  writes = omega (arith, f.writes, g.writes);
  syncs = omega (arith, f.syncs, g.syncs);
  takes = omega (arith, f.takes, g.takes);
  puts = omega (arith, f.puts, g.puts);
}

pub rose_and_put : (m a b c : Faults) → RoseBy m a b → RoseBy (one_more Puts no_faults) b c → RoseBy (one_more Puts m) a c
rose_and_put m a b c f g = record {
  reads = omega (arith, f.reads, g.reads);
  writes = omega (arith, f.writes, g.writes);
  syncs = omega (arith, f.syncs, g.syncs);
  takes = omega (arith, f.takes, g.takes);
  puts = omega (arith, f.puts, g.puts);
}

-- ---- faults that are told

pub told_twice : (kind : Kind) (xs ys : List Served) → told_of kind (xs ++ ys) ≡ told_of kind xs + told_of kind ys
told_twice kind [] ys = omega arith
told_twice kind (x ∷ xs) ys = let rest = told_twice kind xs ys in omega (arith, rest)

-- faults that some tell, and others behind them
pub rose_with : (xs ys : List Served) (a b c : Faults) → RoseBy (faults_told xs) a b → RoseBy (faults_told ys) b c → RoseBy (faults_told (xs ++ ys)) a c
rose_with xs ys a b c f g = record {
  reads = omega (arith, f.reads, g.reads, told_twice Reads xs ys);
  writes = omega (arith, f.writes, g.writes, told_twice Writes xs ys);
  syncs = omega (arith, f.syncs, g.syncs, told_twice Syncs xs ys);
  takes = omega (arith, f.takes, g.takes, told_twice Takes xs ys);
  puts = omega (arith, f.puts, g.puts, told_twice Puts xs ys);
}

-- the same where a call of putting failed in the later ones
pub rose_with_put : (xs ys : List Served) (a b c : Faults) → RoseBy (faults_told xs) a b → RoseBy (one_more Puts (faults_told ys)) b c
    → RoseBy (one_more Puts (faults_told (xs ++ ys))) a c
rose_with_put xs ys a b c f g = record {
  reads = omega (arith, f.reads, g.reads, told_twice Reads xs ys);
  writes = omega (arith, f.writes, g.writes, told_twice Writes xs ys);
  syncs = omega (arith, f.syncs, g.syncs, told_twice Syncs xs ys);
  takes = omega (arith, f.takes, g.takes, told_twice Takes xs ys);
  puts = omega (arith, f.puts, g.puts, told_twice Puts xs ys);
}

-- what a reply tells, by the kind of its fault
told_by : Option Kind → Faults
told_by told = record {
  reads = is_told Reads told + 0;
  writes = is_told Writes told + 0;
  syncs = is_told Syncs told + 0;
  takes = is_told Takes told + 0;
  puts = is_told Puts told + 0;
}

rose_told : (told : Option Kind) (old new : Faults) → CountsOne told old new → RoseBy (told_by told) old new
unfolding told_by
rose_told None old new h = rose_still old new h
rose_told (Some Reads) old new h = rose_one Reads old new h
rose_told (Some Writes) old new h = rose_one Writes old new h
rose_told (Some Syncs) old new h = rose_one Syncs old new h
rose_told (Some Takes) old new h = rose_one Takes old new h
rose_told (Some Puts) old new h = rose_one Puts old new h

pub rose_reply : (x : Served) (said : Reply) (old new : Faults) → told_in x ≡ fault_told said → CountsReply said old new
    → RoseBy (faults_told (x ∷ [])) old new
unfolding told_by
rose_reply x said old new is h =
    subst (λ (told : Option Kind). RoseBy (told_by told) old new) (sym is) (rose_told (fault_told said) old new h)
