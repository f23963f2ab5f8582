use Rattle.std.proofs.Common.{◌≡◌, ℕ, List, Option, Some, None, IsNone, IsSome}
use Rattle.cckd_tables.specs.Cached.{table_of, tables_in}
use Rattle.cckd_tables.proofs.CacheLemmas.{is_found, is_cached, is_absent, is_put}
use Rattle.cckd_tables.proofs.cache.load_table.Goals as goal

-- a table can't be cached and not be
never : (o : Option (List ℕ)) → o ≡ None → IsSome o → ⊥
never None none some = cc
never (Some x) none some = cc

both : (o : Option (List ℕ)) → IsNone o → IsSome o → ⊥
both None none some = cc
both (Some x) none some = cc

pub returns-in-Some-clause-cache : goal.returns-in-Some-clause-cache
returns-in-Some-clause-cache g c =
    (is_found c.args.cache.now c.find.new.self c.args.group c.in-Some.frame.0 c.requires.cache c.find.ensures.order c.find.ensures.kept c.in-Some.ensures.found).cache

pub returns-in-Some-clause-table : goal.returns-in-Some-clause-table
returns-in-Some-clause-table g c =
    (is_found c.args.cache.now c.find.new.self c.args.group c.in-Some.frame.0 c.requires.cache c.find.ensures.order c.find.ensures.kept c.in-Some.ensures.found).table

pub returns-in-Some-clause-used : goal.returns-in-Some-clause-used
returns-in-Some-clause-used g c =
    (is_found c.args.cache.now c.find.new.self c.args.group c.in-Some.frame.0 c.requires.cache c.find.ensures.order c.find.ensures.kept c.in-Some.ensures.found).used

pub returns-in-Some-clause-read : goal.returns-in-Some-clause-read
returns-in-Some-clause-read g c = λ none.
    absurd (both (table_of c.args.group (tables_in c.args.cache.now.entries)) none (is_cached c.args.cache.now c.args.group c.in-Some.frame.0 c.in-Some.ensures.found))

pub returns-in_err-read_table-in-None-clause-quiet : goal.returns-in_err-read_table-in-None-clause-quiet
returns-in_err-read_table-in-None-clause-quiet g c = λ cached.
    absurd (never (table_of c.args.group (tables_in c.args.cache.now.entries)) (is_absent c.args.cache.now c.args.group c.in-None.ensures.found) cached)

pub returns-in_ok-read_table-in-None-clause-cache : goal.returns-in_ok-read_table-in-None-clause-cache
returns-in_ok-read_table-in-None-clause-cache g c =
    (is_put c.args.cache.now c.find.new.self c.put.new.self c.args.group c.put.result.0 c.read_table.new.table c.requires.cache c.in-None.ensures.found c.find.ensures.order c.read_table.ensures.length c.put.ensures.put c.put.ensures.kept).0.cache

pub returns-in_ok-read_table-in-None-clause-used : goal.returns-in_ok-read_table-in-None-clause-used
returns-in_ok-read_table-in-None-clause-used g c =
    (is_put c.args.cache.now c.find.new.self c.put.new.self c.args.group c.put.result.0 c.read_table.new.table c.requires.cache c.in-None.ensures.found c.find.ensures.order c.read_table.ensures.length c.put.ensures.put c.put.ensures.kept).0.used

pub returns-in_ok-read_table-in-None-clause-quiet : goal.returns-in_ok-read_table-in-None-clause-quiet
returns-in_ok-read_table-in-None-clause-quiet g c = λ cached.
    absurd (never (table_of c.args.group (tables_in c.args.cache.now.entries)) (is_absent c.args.cache.now c.args.group c.in-None.ensures.found) cached)
