mod HistoryRows
mod RowTables
mod TraceRows
